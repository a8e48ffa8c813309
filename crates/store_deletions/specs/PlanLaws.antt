-- What was built is the plan.
--     planned_of      if the tables are those that the files tell
--     planned_by      by the tables that were read
--     same_window, as_many      what is read of them is a window's
use Rattle.std.specs.Prelude.{◌≡◌, ℕ, zero, suc, ◌+◌, ◌-◌, ◌<◌, ◌≤◌, ◌^◌, List, [], ◌∷◌, length, Option, Some, slice_get}
use Rattle.std.proofs.Common.{refl, sym, ap, ◌∙◌, subst, arith}
use Rattle.std.proofs.lemmas.Bool.Decides.{nat_tests}
use Rattle.disk_trait.specs.declared.ids.PoolId.{PoolId}
use Rattle.disk_trait.specs.declared.ids.FileId.TheVariants as F
use Rattle.disk_trait.specs.Files.{Files}
use Rattle.intent_journal.specs.declared.changes.Change.{Change}
use Rattle.intent_journal.specs.Changes.{applied, AreChanges}
use Rattle.backup_rules.specs.declared.lines.Line.{Line}
use Rattle.backup_index.specs.Index.{Index as HostIndex}
use Rattle.merge_view.specs.Views.{Rows}
use Rattle.backup_views.specs.Stored.{AreTableFiles}
use Rattle.pool_index.specs.Index.{Index}
use Rattle.ref_counts.specs.Numbers.{Items, total, capped}
use Rattle.ref_counts.specs.Numbers as N
use Rattle.ref_counts.specs.Stored.{Backup as StoredBackup, StoredHost, stored, of_partial, counted as tables_counted, AreWhole}
use Rattle.ref_counts.specs.StoredLaws.{total-counted}
use Rattle.backup_delete.specs.Folds.{folded_tables, Change as TableChange, changes, change_at, added_tables, taken_tables}
use Rattle.backup_delete.specs.FoldLaws.{folded-stored}
use Rattle.backup_delete.specs.CountedLaws.{folded-total, taken-within}
use Rattle.backup_delete.specs.Windows.{part, IsWindow}
use Rattle.backup_delete.specs.WindowLaws.{changes-part, taken-part}
use Rattle.office_model.specs.Office.{Host}
use Rattle.office_model.specs.Parts.{lines_of}
use Rattle.office_catalog.specs.Known.{Known, IsCatalog, with_change, changed_at}
use Rattle.office_files.specs.Hosts.{index_of_host}
use Rattle.office_files.specs.KeptLaws.{IsHostFile-same}
use Rattle.office_files.specs.Pooled.{contents_of, IsListed}
use Rattle.office_files.specs.TableLayouts.{WriteNoFirst}
use Rattle.office_changes.specs.BoundLaws.{few_counted_in}
use Rattle.store_parts.specs.KnownOffice.{host_of_catalog}
use Rattle.office_deletion.specs.DeletionLaws.{length_lines, length_rows, rows_of, left_backups, lines_left, as_backups, are_whole, IsChangedTo, IsDeletion}
use Rattle.office_deletion.specs.DeletionLaws as D
use Rattle.store_parts.specs.Held.{AreCounts}
use Rattle.store_deletions.specs.declared.plan.DeletionPlan.{DeletionPlan}
use Rattle.store_deletions.specs.Planned.{left_index, left_host, left_shown, IsHostAtWork, IsPlanned}
use Rattle.store_deletions.specs.Built.{IsBuilt}
use Rattle.store_deletions.specs.Written.{table_part, written}
use Rattle.store_deletions.specs.WrittenLaws.{IsOne, one_change, are_tables, are_written, at_index, at_table, at_counts, at_partial, at_other}
use Rattle.store_deletions.specs.LayoutLaws.{written_second}
use Rattle.store_deletions.specs.LeftLaws.{left_numbered}
use Rattle.store_deletions.specs.PartLaws.{part_tables, tables_of_host, rise_sound, rise_part}

some_same : {A : Type 0} (x y : A) → Some x ≡ Some y → x ≡ y
some_same x y e = cc

changed_here : (f : HostIndex → HostIndex) (hosts : List HostIndex) (host : ℕ) (index : HostIndex) → slice_get hosts host ≡ Some index
    → slice_get (changed_at f host hosts) host ≡ Some (f index)
changed_here f [] host index e = absurd cc
changed_here f (h ∷ hosts) zero index e = let same : h ≡ index = cc in ap (λ (i : HostIndex). Some (f i)) same
changed_here f (h ∷ hosts) (suc host) index e = changed_here f hosts host index e

-- numbers that stay below the greatest one
next_number : (old taken added new : ℕ) → new + taken ≡ old + added → new < 2 ^ 64 → old < 2 ^ 64 → taken ≤ old
    → capped ((old - capped taken) + capped added) ≡ new
next_number old taken added new e a b c = grind (arith, nat_tests)

-- what is there beside is there before and after
with_same : (old more taken added new old_all new_all : ℕ) → new + taken ≡ old + added → old_all ≡ old + more → new_all ≡ new + more
    → new_all + taken ≡ old_all + added
with_same old more taken added new old_all new_all e before after = omega (arith, e, before, after)

within_more : (taken old more old_all : ℕ) → taken ≤ old → old_all ≡ old + more → taken ≤ old_all
within_more taken old more old_all less is = omega (arith, less, is)

-- what is stored of the backups that are left
module _ (pool : Index) (catalog : Known) (counts : Items) (all : Files) (number : ℕ) (host : Host) (of : StoredHost)
    (numbers : List ℕ) (at : IsHostAtWork pool catalog counts all number host of) where
  abbrev shown : List StoredBackup
  shown = of.backups

  abbrev lines : List Line
  lines = lines_of host.backups

  abbrev left : StoredHost
  left = left_shown numbers host of

  left_stored : folded_tables numbers lines (stored shown) ≡ stored left.backups
  left_stored =
      let is = as_backups (IsListed pool) (contents_of all) host.backups shown at.stands.shown in
      let counted : length (rows_of shown) ≡ length lines =
      length_rows shown ∙ at.stands.shown.counted ∙ sym (length_lines host.backups) in
      ap (λ (s : List StoredBackup). folded_tables numbers lines (stored s)) is
      ∙ folded-stored numbers lines (rows_of shown) counted
      (subst AreWhole is (are_whole (IsListed pool) (contents_of all) host.backups shown at.stands.shown))

  same_length : length (stored shown) ≡ length lines
  same_length = at.stands.tables.counted ∙ sym (length_lines host.backups)

  -- how often the tables that are left name a content
  left_counted : (id : PoolId)
      → capped ((N.number counts id - capped (total id (taken_tables numbers lines (stored shown))))
      + capped (total id (added_tables (changes numbers lines (stored shown)))))
      ≡ total id (tables_counted left)
  left_counted id =
      ap (λ (n : ℕ). capped ((n - capped (total id (taken_tables numbers lines (stored shown))))
      + capped (total id (added_tables (changes numbers lines (stored shown))))))
      (at.counted id)
      ∙ next_number (total id (tables_counted of)) (total id (taken_tables numbers lines (stored shown)))
      (total id (added_tables (changes numbers lines (stored shown)))) (total id (tables_counted left))
      (with_same (total id (stored shown)) (total id (of_partial of.partial)) (total id (taken_tables numbers lines (stored shown)))
      (total id (added_tables (changes numbers lines (stored shown)))) (total id (stored left.backups)) (total id (tables_counted of))
      (total id (tables_counted left))
      (ap (λ (t : List Rows). total id t + total id (taken_tables numbers lines (stored shown))) (sym left_stored)
      ∙ folded-total id numbers lines (stored shown) same_length) (total-counted id of) (total-counted id left))
      (few_counted_in (IsListed pool) (contents_of all) number (left_host numbers host) left (all (F.Partial number))
      (left_numbered numbers host.next host.backups at.numbered) at.few at.partial
      (D.left_shown (IsListed pool) (contents_of all) numbers host.backups shown at.stands.shown) at.stands.partial id)
      (few_counted_in (IsListed pool) (contents_of all) number host of (all (F.Partial number)) at.numbered at.few at.partial at.stands.shown
      at.stands.partial id)
      (within_more (total id (taken_tables numbers lines (stored shown))) (total id (stored shown)) (total id (of_partial of.partial))
      (total id (tables_counted of)) (taken-within id numbers lines (stored shown)) (total-counted id of))

  index_left : left_index numbers (index_of_host number host) ≡ index_of_host number (left_host numbers host)
  index_left = ap (λ (ls : List Line). record (index_of_host number host) { lines = ls }) (sym (lines_left numbers host.backups))

module _ (catalog : Known) (told : Option Files) (old : Items) (number first end : ℕ) (numbers : List ℕ) (tables : List Rows) (plan : DeletionPlan)
    (b : IsBuilt catalog number first end tables old numbers plan)
    (read : (all : Files) (others : List Rows) → told ≡ Some all → AreTableFiles all number (part first end b.index.lines) others → tables ≡ others) where
  abbrev made : List TableChange
  made = changes numbers (part first end b.index.lines) tables

  one : IsOne b.listed (F.Host number)
  one = one_change b.listed (F.Host number) b.leads.named

  once : AreChanges (table_part number made)
  once =
      are_tables number 0 numbers (part first end b.index.lines) tables
      (rise_part first end b.index.lines (rise_sound b.index.next b.index.lines b.is_host.sound))

  module _ (pool : Index) (all : Files) (host : Host) (of : StoredHost) (is : told ≡ Some all)
      (at : IsHostAtWork pool catalog old all number host of) where
    abbrev kept : List StoredBackup
    kept = of.backups

    index_is : b.index ≡ index_of_host number host
    index_is = some_same b.index (index_of_host number host) (sym b.here ∙ at.index)

    lines_are : b.index.lines ≡ lines_of host.backups
    lines_are = ap (λ (i : HostIndex). i.lines) index_is

    tables_are : tables ≡ part first end (stored kept)
    tables_are = read all (part first end (stored kept)) is
        (part_tables all number first end b.index.lines (stored kept)
        (subst (λ (ls : List Line). AreTableFiles all number ls (stored kept)) (sym lines_are)
        (tables_of_host (IsListed pool) (contents_of all) all number host of at.stands)))

    window : IsWindow numbers (lines_of host.backups) first end
    window = subst (λ (ls : List Line). IsWindow numbers ls first end) lines_are b.window

    same : length (stored kept) ≡ length (lines_of host.backups)
    same = same_length pool catalog old all number host of numbers at

    -- what the part tells is what all backups tell
    made_is : made ≡ changes numbers (lines_of host.backups) (stored kept)
    made_is =
        (λ i. changes numbers (part first end (lines_are i)) (tables_are i))
        ∙ sym (changes-part numbers (lines_of host.backups) (stored kept) first end window same)

    taken_is : taken_tables numbers (part first end b.index.lines) tables ≡ taken_tables numbers (lines_of host.backups) (stored kept)
    taken_is =
        (λ i. taken_tables numbers (part first end (lines_are i)) (tables_are i))
        ∙ sym (taken-part numbers (lines_of host.backups) (stored kept) first end window same)

    counted : AreCounts plan.counts (left_shown numbers host of)
    counted id =
        b.counted id
        ∙ (λ i. capped ((N.number old id - capped (total id (taken_is i))) + capped (total id (added_tables (made_is i)))))
        ∙ left_counted pool catalog old all number host of numbers at id

    image_is : applied plan.changes all ≡ applied (written b.listed number made plan.counts) all
    image_is = ap (λ (cs : List Change). applied cs all) b.changes_are

    at_file : (file : _) → applied plan.changes all file ≡ applied (written b.listed number made plan.counts) all file
    at_file file = ap (λ (f : Files). f file) image_is

    deletes : IsDeletion numbers all (applied plan.changes all) number host (left_host numbers host) of
    deletes = record {
      backups_are = refl;
      numbered = left_numbered numbers host.next host.backups at.numbered;
      index = IsHostFile-same (index_of_host number (left_host numbers host)) (applied b.listed all (F.Host number))
          (applied plan.changes all (F.Host number)) (at_file (F.Host number) ∙ at_index b.listed number made plan.counts one once all)
          (host_of_catalog (applied b.listed all) (with_change catalog number (left_index numbers)) number
          (index_of_host number (left_host numbers host))
          (changed_here (left_index numbers) catalog.hosts number (index_of_host number host) at.index
          ∙ ap (λ (i : HostIndex). Some i) (index_left pool catalog old all number host of numbers at))
          (b.leads.leads all at.holds));
      tables = λ n.
          subst (IsChangedTo (change_at (changes numbers (lines_of host.backups) (stored kept)) n) (all (F.Table number n)))
          (sym (at_file (F.Table number n)))
          (subst (λ (m : List TableChange). IsChangedTo (change_at m n) (all (F.Table number n))
          (applied (written b.listed number made plan.counts) all (F.Table number n)))
          made_is
          (at_table b.listed number made plan.counts one once all b.fit n));
      counts = record {
        items = plan.counts;
        fits = b.counts_fit;
        each = counted;
        is = at_file (F.Counts number) ∙ at_counts b.listed number made plan.counts one once all;
      };
      parked = refl;
      partial = at_file (F.Partial number) ∙ at_partial b.listed number made plan.counts one once all;
    }

  pub planned_of : IsPlanned catalog told old number numbers plan
  planned_of = record {
    fits = b.fits;
    known = b.known;
    are = subst AreChanges (sym b.changes_are) (are_written b.listed number made plan.counts one once);
    second = subst WriteNoFirst (sym b.changes_are) (written_second b.listed number made plan.counts b.leads.named);
    others = λ all file out.
        ap (λ (cs : List Change). applied cs all file) b.changes_are ∙ at_other b.listed number made plan.counts one once all file out;
    deletes = deletes;
    counted = counted;
  }

-- the tables that were read are those of the host's lines
pub planned_by : (catalog : Known) (told : Option Files) (old : Items) (number file first end : ℕ) (numbers : List ℕ) (tables given : List Rows)
    (index : HostIndex) (all_lines : List Line) (plan : DeletionPlan) → IsCatalog catalog.hosts → slice_get catalog.hosts number ≡ Some index
    → file ≡ index.host → all_lines ≡ index.lines → given ≡ tables
    → ((all : Files) (others : List Rows) → told ≡ Some all → AreTableFiles all file (part first end all_lines) others → tables ≡ others)
    → IsBuilt catalog number first end given old numbers plan → IsPlanned catalog told old number numbers plan
planned_by catalog told old number file first end numbers tables given index all_lines plan are here file_is are_lines same reads b =
    planned_of catalog told old number first end numbers given plan b
    (λ all others is told_are. same ∙ reads all others is
    (subst (λ (f : ℕ). AreTableFiles all f (part first end all_lines) others) (sym (file_is ∙ (are.each number index here).number))
    (subst (λ (ls : List Line). AreTableFiles all number (part first end ls) others)
    (ap (λ (i : HostIndex). i.lines) (some_same b.index index (sym b.here ∙ here)) ∙ sym are_lines) told_are)))

-- what is a window of the lines that are read is one of the host's
pub same_window : (catalog : Known) (number first end : ℕ) (numbers : List ℕ) (index : HostIndex) (all_lines : List Line)
    → slice_get catalog.hosts number ≡ Some index → all_lines ≡ index.lines → IsWindow numbers all_lines first end
    → (other : HostIndex) → slice_get catalog.hosts number ≡ Some other → IsWindow numbers other.lines first end
same_window catalog number first end numbers index all_lines here are_lines window other there =
    subst (λ (ls : List Line). IsWindow numbers ls first end)
    (are_lines ∙ ap (λ (i : HostIndex). i.lines) (some_same index other (sym here ∙ there))) window

-- and the host's index has as many lines there
pub as_many : (catalog : Known) (number first end : ℕ) (index : HostIndex) (all_lines : List Line) (tables given : List Rows)
    → slice_get catalog.hosts number ≡ Some index → all_lines ≡ index.lines → given ≡ tables
    → length tables ≡ length (part first end all_lines)
    → (other : HostIndex) → slice_get catalog.hosts number ≡ Some other → length given ≡ length (part first end other.lines)
as_many catalog number first end index all_lines tables given here are_lines same each other there =
    ap length same ∙ each
    ∙ ap (λ (ls : List Line). length (part first end ls))
    (are_lines ∙ ap (λ (i : HostIndex). i.lines) (some_same index other (sym here ∙ there)))
