-- A plan is built of its parts.
--     index_there      the index of the host
--     same_left      the catalog's change leaves the lines of other numbers
--     left_sound      these keep the rules of a host's lines
--     built_of      the plan
use Rattle.std.specs.Prelude.{◌≡◌, ℕ, zero, suc, ◌+◌, ◌-◌, ◌<◌, List, [], ◌∷◌, length, Some, slice_get, get_or}
use Rattle.std.proofs.Common.{refl, sym, ap, ◌∙◌, subst}
use Rattle.std.proofs.lemmas.Option.{slice_get-get_or}
use Rattle.disk_trait.specs.declared.ids.PoolId.{PoolId}
use Rattle.disk_trait.specs.declared.ids.FileId.TheVariants.{Host as HostFile}
use Rattle.intent_journal.specs.declared.changes.Change.{Change}
use Rattle.backup_index.specs.Index.{Index as HostIndex}
use Rattle.backup_index.specs.Lines.{IsSound}
use Rattle.backup_rules.specs.declared.lines.Line.{Line}
use Rattle.merge_view.specs.Views.{Rows}
use Rattle.ref_counts.specs.Numbers.{Items, number, total, capped}
use Rattle.ref_counts.specs.Layout.{IsCounts}
use Rattle.backup_delete.specs.Folds.{left_lines, Change as TableChange, changes, added_tables, taken_tables}
use Rattle.backup_delete.specs.TableLaws.{left-sound}
use Rattle.backup_delete.specs.Windows.{part, IsWindow}
use Rattle.office_catalog.specs.declared.edits.CatalogChange.{CatalogChange}
use Rattle.office_catalog.specs.Known.{Known, known_of, IsCatalog, with_change, changed_at, given_lines}
use Rattle.office_catalog.specs.Changed.{after, IsFor, Leads, Proposes}
use Rattle.store_deletions.specs.Planned.{left_index}
use Rattle.store_deletions.specs.Written.{written, AreFit}
use Rattle.store_deletions.specs.Built.{IsBuilt}

-- the index that is read is the one at the host's place
pub index_there : (hosts slice : List HostIndex) (host : ℕ) (index : HostIndex) → host < length hosts → slice ≡ hosts
    → index ≡ get_or slice host index → slice_get hosts host ≡ Some index
index_there hosts slice host index within same is =
    slice_get-get_or hosts host index within
    ∙ ap (λ (i : HostIndex). Some i) (ap (λ (l : List HostIndex). get_or l host index) (sym same) ∙ sym is)

changed_alike : (f g : HostIndex → HostIndex) (hosts : List HostIndex) (host : ℕ) (index : HostIndex) → slice_get hosts host ≡ Some index
    → f index ≡ g index → changed_at f host hosts ≡ changed_at g host hosts
changed_alike f g [] host index e same = refl
changed_alike f g (x ∷ hosts) zero index e same =
    let is : x ≡ index = cc in
    ap (λ (i : HostIndex). i ∷ hosts) (ap f is ∙ same ∙ sym (ap g is))
changed_alike f g (x ∷ hosts) (suc host) index e same = ap (λ l. x ∷ l) (changed_alike f g hosts host index e same)

-- the catalog's change leaves the lines of other numbers
same_left : (catalog : Known) (host : ℕ) (index : HostIndex) (numbers : List ℕ) (lines : List Line)
    → slice_get catalog.hosts host ≡ Some index
    → lines ≡ left_lines numbers index.lines
    → with_change catalog host (λ i. given_lines i.next lines i) ≡ with_change catalog host (left_index numbers)
same_left catalog host index numbers lines here are =
    ap (known_of catalog.epoch) (changed_alike (λ i. given_lines i.next lines i) (left_index numbers) catalog.hosts host index here
    (ap (λ (ls : List Line). given_lines index.next ls index) are))

some_same : {A : Type 0} (x y : A) → Some x ≡ Some y → x ≡ y
some_same x y e = cc

-- the lines of other numbers keep the rules of a host's lines
pub left_sound : (hosts : List HostIndex) (host : ℕ) (index : HostIndex) (numbers : List ℕ) (lines : List Line) → IsCatalog hosts
    → slice_get hosts host ≡ Some index → lines ≡ left_lines numbers index.lines
    → (other : HostIndex) → slice_get hosts host ≡ Some other → IsSound other.next lines
left_sound hosts host index numbers lines are here lines_are other there =
    subst (λ (i : HostIndex). IsSound i.next lines) (some_same index other (sym here ∙ there))
    (subst (IsSound index.next) (sym lines_are) (left-sound numbers index.next index.lines (are.each host index here).sound))

-- a change of the catalog whose files were taken out
pub record IsTaken (change new : CatalogChange) (taken : List Change) : Type 0 where
  pub changes : taken ≡ change.changes
  pub edit : new.edit ≡ change.edit

pub built_of : (catalog : Known) (host file : ℕ) (index : HostIndex) (first end : ℕ) (tables : List Rows)
    (old taken added counts : Items) (numbers : List ℕ)
    (lines : List Line) (made : List TableChange) (change new : CatalogChange) (listed all : List Change)
    → IsCatalog catalog.hosts → slice_get catalog.hosts host ≡ Some index → file ≡ index.host → IsWindow numbers index.lines first end
    → lines ≡ left_lines numbers index.lines → made ≡ changes numbers (part first end index.lines) tables
    → ((id : PoolId) → number added id ≡ capped (total id (added_tables made)))
    → ((id : PoolId) → number taken id ≡ capped (total id (taken_tables numbers (part first end index.lines) tables)))
    → ((id : PoolId) → number counts id ≡ capped ((number old id - number taken id) + number added id))
    → Proposes catalog (with_change catalog host (λ i. given_lines i.next lines i)) (HostFile host ∷ []) change → IsFor catalog change
    → IsTaken change new listed → AreFit made → IsCounts counts → all ≡ written listed file made counts
    → IsBuilt catalog host first end tables old numbers (record { catalog = new; counts = counts; changes = all })
built_of catalog host file index first end tables old taken added counts numbers lines made change new listed all are here file_is window lines_are made_are added_are taken_are counted proposes fits is_taken fit counts_fit written_is =
    let left = same_left catalog host index numbers lines here lines_are in
    let is_host = are.each host index here in
    record {
      index = index;
      here = here;
      is_host = is_host;
      window = window;
      fits = subst (λ e. IsFor catalog (record change { edit = e })) (sym is_taken.edit) fits;
      known = ap (λ e. after (record change { edit = e }) catalog) is_taken.edit ∙ proposes.after_is ∙ left;
      listed = listed;
      leads = subst (Leads catalog (with_change catalog host (left_index numbers)) (HostFile host ∷ [])) (sym is_taken.changes)
          (subst (λ (k : Known). Leads catalog k (HostFile host ∷ []) change.changes) left proposes.leads);
      fit = subst AreFit made_are fit;
      counts_fit = counts_fit;
      changes_are = written_is ∙ (λ i. written listed ((file_is ∙ is_host.number) i) (made_are i) counts);
      counted = λ id. counted id ∙ (λ i. capped ((number old id - taken_are id i) + added_are id i))
          ∙ ap (λ (m : List TableChange). capped ((number old id - capped (total id (taken_tables numbers (part first end index.lines) tables)))
          + capped (total id (added_tables m)))) made_are;
    }
