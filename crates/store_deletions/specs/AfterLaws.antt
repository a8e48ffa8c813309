-- What a deletion that was planned leads to, for parts at work.
--     host_at_work      the host that it is of, as the parts hold it
--     IsShortened, shortened      the files after it stand for the office after it; so do the catalog and the counts
--     not_damaged, counts_of      none of the host's tables is damaged, and there are counts of it
use Rattle.std.specs.Prelude.{◌≡◌, ◌≢◌, ◌⊎◌, ◌<◌, ℕ, zero, suc, List, [], ◌∷◌, length, Option, Some, Ok, slice_get, slice_set}
use Rattle.std.proofs.Common.{refl, sym, ap, ◌∙◌, subst, inl, inr, arith}
use Rattle.std.proofs.lemmas.Option.{slice_get_within}
use Rattle.disk_trait.specs.declared.ids.FileId.{FileId}
use Rattle.disk_trait.specs.declared.ids.FileId.TheVariants as F
use Rattle.disk_trait.specs.declared.disk.Disk.{Ghosts as DiskGhosts}
use Rattle.disk_trait.specs.Files.{Files}
use Rattle.pool_name.specs.declared.namer.Namer.{Ghosts as NamerGhosts}
use Rattle.intent_journal.specs.Changes.{applied}
use Rattle.journal_view.specs.View.{told}
use Rattle.backup_rules.specs.declared.lines.Line.{Line}
use Rattle.backup_index.specs.Index.{Index as HostIndex, index_of as host_index_of}
use Rattle.backup_views.specs.Faults.{IsDamaged}
use Rattle.pool_index.specs.Index.{Index}
use Rattle.pool_changes.specs.Listed.{index_of}
use Rattle.ref_counts.specs.Numbers.{Items}
use Rattle.ref_counts.specs.Stored.{StoredHost, stored}
use Rattle.office_catalog.specs.Known.{Known, known_of, with_change}
use Rattle.office_catalog.specs.Held.{HoldsCatalog}
use Rattle.office_catalog.specs.Changed.{after}
use Rattle.office_model.specs.declared.answer.Answer.{Answer}
use Rattle.office_model.specs.declared.event.Event.{Event}
use Rattle.office_model.specs.Office.{Office, Host, Names, with_hosts}
use Rattle.office_model.specs.PlacesLaws.{in_set}
use Rattle.office_model.specs.Step.{meaning_of}
use Rattle.office_model.specs.UsedNames.{AreSound, AreNamesAfter}
use Rattle.office_model.specs.laws.StepLaws.{IsSound-carried}
use Rattle.office_model.specs.laws.StateLaws.{AreSound-carried}
use Rattle.office_model.specs.Pairs.{AtEachPair}
use Rattle.office_model.specs.PairsLaws.{other_at, pair_at}
use Rattle.office_files.specs.Hosts.{index_of_host, StandsHost}
use Rattle.office_files.specs.Pooled.{contents_of, IsListed}
use Rattle.office_files.specs.Stands.{Stands}
use Rattle.store_parts.specs.KnownOffice.{known_of_office, stands_catalog, index_there, host_replaced}
use Rattle.office_deletion.specs.DeletionLaws.{IsDeletion, lines_left}
use Rattle.office_deletion.specs.OfficeLaws.{deletion_stands}
use Rattle.store_parts.specs.declared.parts.StoreParts.{StoreParts}
use Rattle.store_parts.specs.Held.{AreCounts, AreCountsOf}
use Rattle.store_parts.specs.States.{slots, IsRunning}
use Rattle.store_parts.specs.StepLaws.{carried_plain}
use Rattle.store_deletions.specs.declared.plan.DeletionPlan.{DeletionPlan}
use Rattle.store_deletions.specs.PartLaws.{backup_there}
use Rattle.store_deletions.specs.Planned.{left_index, left_host, left_shown, IsHostAtWork, IsPlanned}
use Rattle.store_deletions.specs.Shortens.{Shortens}

-- ---- lists side by side

module _ {A B : Type 0} (R : A → B → Type 0) where
  -- an element of each is replaced
  pairs_set : (xs : List A) (ys : List B) (p : ℕ) (x : A) (y : B) → R x y → AtEachPair (λ i. R) xs ys
      → AtEachPair (λ i. R) (slice_set xs p x) (slice_set ys p y)
  pairs_set xs ys p x y r pairs = record {
    counted = length-set ys p y ∙ pairs.counted ∙ sym (length-set xs p x);
    each = λ i a b e f. step i a b (in_set xs p x i a e) (in_set ys p y i b f);
  }
    where
      length-set : {C : Type 0} (zs : List C) (p : ℕ) (z : C) → length (slice_set zs p z) ≡ length zs
      length-set [] p z = refl
      length-set (w ∷ zs) zero z = refl
      length-set (w ∷ zs) (suc p) z = ap suc (length-set zs p z)

      step : (i : ℕ) (a : A) (b : B) → ((i ≢ p) × (slice_get xs i ≡ Some a)) ⊎ ((i ≡ p) × (a ≡ x) × (p < length xs))
          → ((i ≢ p) × (slice_get ys i ≡ Some b)) ⊎ ((i ≡ p) × (b ≡ y) × (p < length ys)) → R a b
      step i a b (inl e) (inl f) = pairs.each i a b e.1 f.1
      step i a b (inl e) (inr f) = absurd (e.0 f.0)
      step i a b (inr e) (inl f) = absurd (f.0 e.0)
      step i a b (inr e) (inr f) = subst (λ (a : A). R a b) (sym e.1) (subst (R x) (sym f.1) r)

-- there is an element at each place within
pub within_there : {A : Type 0} (xs : List A) (i : ℕ) → i < length xs → (x : A) × (slice_get xs i ≡ Some x)
within_there [] i within = absurd (omega (arith, within))
within_there (x ∷ xs) zero within = (x, refl)
within_there (x ∷ xs) (suc i) within = within_there xs i (omega (arith, within))

-- ---- parts at work

module _ {D N S : Type 0} {d : DiskGhosts D} {n : NamerGhosts N S} where
  module _ (old : StoreParts D N S d n) (p : ℕ) (office : Office) (names : Names) (at : IsRunning old office names) (host : Host)
      (here : slice_get office.hosts p ≡ Some host) where
    abbrev pool : Index
    pool = index_of (slots old)

    -- what is stored of it
    abbrev found : (of : StoredHost) × (slice_get at.shown p ≡ Some of) × StandsHost (IsListed pool) (contents_of at.all) at.all p host of
    found = pair_at (StandsHost (IsListed pool) (contents_of at.all) at.all) office.hosts at.shown at.stands.hosts p host here

    host_at_work : (items : Items) → slice_get old.counts p ≡ Some items
        → IsHostAtWork pool old.catalog items at.all p host found.0
    host_at_work items are = record {
      stands = found.2;
      holds = subst (HoldsCatalog at.all) (sym at.catalog_is)
          (stands_catalog n.digest_of pool at.shown at.all office.durable at.stands);
      index = ap (λ (k : Known). slice_get k.hosts p) at.catalog_is ∙ index_there office.hosts p host here;
      numbered = (at.sound.hosts.each p host here).backups.numbered;
      few = (at.sound.hosts.each p host here).numbers;
      partial = (at.sound.hosts.each p host here).partial;
      counted = at.counted.each p items found.0 are found.1;
    }

    -- a table of the host is a table
    pub not_damaged : (file : FileId) (bytes : Option (List ℕ))
        → ((index : HostIndex) → slice_get old.catalog.hosts p ≡ Some index → IsDamaged (told old.journal) p index.lines file bytes) → ⊥
    not_damaged file bytes says =
        let index : slice_get old.catalog.hosts p ≡ Some (index_of_host p host) =
        ap (λ (k : Known). slice_get k.hosts p) at.catalog_is ∙ index_there office.hosts p host here in
        let said = says (index_of_host p host) index in
        let b = backup_there host.backups said.index said.line said.is_line in
        let rows = other_at host.backups (stored found.0.backups) said.index b.0 found.2.tables.counted b.1 in
        let table = found.2.tables.each said.index b.0 rows.0 b.1 rows.1 in
        said.no_table.none rows.0 (record {
          layout = table.layout;
          fits = table.fits;
          is = said.no_table.there at.all at.told_is ∙ ap at.all said.file_is
              ∙ ap (λ (line : Line). at.all (F.Table p line.number)) (sym b.2) ∙ table.is;
        })

  -- there are counts of each host
  pub counts_of : (old : StoreParts D N S d n) (p : ℕ) (office : Office) (names : Names) (at : IsRunning old office names) (host : Host)
      → slice_get office.hosts p ≡ Some host → (items : Items) × (slice_get old.counts p ≡ Some items)
  counts_of old p office names at host here =
      let of = found old p office names at host here in
      let within = slice_get_within at.shown p of.0 of.1 in
      within_there old.counts p (omega (arith, at.counted.counted, within))

  -- what holds after a deletion that was planned, by what is stored then
  pub record IsShortened (old : StoreParts D N S d n) (plan : DeletionPlan) (p : ℕ) (all : Files) (after_it : Office) : Type 0 where
    pub shown : List StoredHost
    pub stands : Stands n.digest_of (index_of (slots old)) shown (applied plan.changes all) after_it.durable
    pub counted : AreCountsOf (slice_set old.counts p plan.counts) shown
    pub known : after plan.catalog old.catalog ≡ known_of_office after_it.durable

  module _ (old : StoreParts D N S d n) (p : ℕ) (numbers : List ℕ) (items : Items) (plan : DeletionPlan)
      (has_items : slice_get old.counts p ≡ Some items) (planned : IsPlanned old.catalog (told old.journal) items p numbers plan)
      (office : Office) (names : Names) (at : IsRunning old office names) (event : Event) (answer : Answer)
      (s : Shortens event answer office names p numbers) where
    abbrev host : Host
    host = s.host

    abbrev of : StoredHost
    of = (found old p office names at s.host s.is_host).0

    abbrev office_then : Office
    office_then = with_hosts office (slice_set office.hosts p (left_host numbers s.host))

    deletion : IsDeletion numbers at.all (applied plan.changes at.all) p host (left_host numbers host) of
    deletion =
        planned.deletes (index_of (slots old)) at.all host of at.told_is
        (host_at_work old p office names at s.host s.is_host items has_items)

    pub sound_then : AreNamesAfter office names (meaning_of event) (Ok answer) names → AreSound office_then names
    sound_then stay =
        AreSound-carried office names event answer office_then names at.sound
        (carried_plain event office names (record { answer = answer; after = office_then }) s.plain s.judged) stay

    index_then : left_index numbers (index_of_host p host) ≡ index_of_host p (left_host numbers host)
    index_then =
        ap (λ (ls : List Line). host_index_of p host.name host.rules host.good host.bad host.next host.receipts ls)
        (sym (lines_left numbers host.backups))

    pub shortened : IsShortened old plan p at.all office_then
    shortened = record {
      shown = slice_set at.shown p (left_shown numbers host of);
      stands = deletion_stands n.digest_of (index_of (slots old)) at.shown at.all (applied plan.changes at.all) office.durable p host
          (left_host numbers host) numbers of s.is_host refl (found old p office names at s.host s.is_host).1
          (λ file metadata other. planned.others at.all file other) (λ id listed. planned.others at.all (F.Pool id) refl) deletion
          (IsSound-carried office names event (record { answer = answer; after = office_then }) at.sound s.judged).kept at.stands;
      counted = pairs_set AreCounts old.counts at.shown p plan.counts (left_shown numbers host of)
          (planned.counted (index_of (slots old)) at.all host of at.told_is
          (host_at_work old p office names at s.host s.is_host items has_items)) at.counted;
      known = planned.known ∙ ap (λ (k : Known). with_change k p (left_index numbers)) at.catalog_is
          ∙ ap (known_of office.epoch)
          (host_replaced (left_index numbers) host (left_host numbers host) p office.hosts s.is_host index_then);
    }
