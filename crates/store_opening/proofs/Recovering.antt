-- What the files of a store are found to hold.
use Rattle.std.specs.Prelude.{◌⊎◌, is_some, length, option_map}
use Rattle.std.proofs.Common.{◌≡◌, ℕ, Bool, false, true, List, Option, None, Some, refl, sym, ap, ◌∙◌, subst, inl, inr}
use Rattle.std.proofs.lemmas.Bool.{false≢true}
use Rattle.disk_trait.specs.declared.ids.PoolId.{PoolId}
use Rattle.disk_trait.specs.declared.ids.FileId.{FileId}
use Rattle.disk_trait.specs.declared.ids.FileId.TheVariants as F
use Rattle.disk_trait.specs.declared.disk.Disk.{Ghosts as DiskGhosts}
use Rattle.disk_trait.specs.Files.{Files}
use Rattle.pool_name.specs.declared.namer.Namer.{Ghosts as NamerGhosts}
use Rattle.intent_journal.specs.declared.journal.Journal.{Journal}
use Rattle.journal_view.specs.Found.{seen}
use Rattle.journal_view.specs.FoundLaws.{told_raw}
use Rattle.journal_view.specs.View.{told, uncertain, Quiet}
use Rattle.pool_index.specs.Index.{Index, TellsIn, TellsIndex}
use Rattle.pool_changes.specs.declared.slot.Slot.{Slot}
use Rattle.pool_changes.specs.declared.slot.Slot.TheVariants.{Live, Staged, Doomed}
use Rattle.pool_changes.specs.Slots.{Slots, is_given, is_live}
use Rattle.pool_changes.specs.Kept.{slots_of}
use Rattle.pool_changes.specs.Listed.{index_of}
use Rattle.pool_store.specs.Opened.{IsFresh, Opens}
use Rattle.pool_store.specs.Opening.{AreFresh}
use Rattle.pool_store.specs.Complete.{HaveFiles}
use Rattle.office_model.specs.Office.{Durable, Names}
use Rattle.office_files.specs.KeptLaws.{tells_kept, listed_held}
use Rattle.office_files.specs.OneLaws.{one_listing}
use Rattle.office_files.specs.Stands.{Stands, StandsFor}
use Rattle.office_catalog.specs.Held.{HoldsCatalog, IsForeign as IsForeignToCatalog}
use Rattle.host_counts.specs.Held.{AreTold}
use Rattle.host_partials.specs.Held.{AreTold as ArePartialsTold}
use Rattle.store_parts.specs.KnownOffice.{one_catalog}
use Rattle.office_pool.specs.FitLaws.{fits_stands}
use Rattle.store_parts.specs.Held.{IsEither, IsStored}
use Rattle.store_parts.specs.WriteLaws.{tells_in_kept}
use Rattle.store_opening.specs.declared.found.Found.{Found}
use Rattle.store_opening.specs.KeptTables.{AreOldIn}
use Rattle.store_opening.specs.Strays.{IsStray}
use Rattle.store_opening.specs.Recovers.{Holds, IsHeld, IsForeignToHosts, IsForeign, Recovers}
use Rattle.store_opening.proofs.HostTotals.{counts_of_office, heads_of_office}
use Rattle.store_opening.proofs.OldHosts.{old_hosts_of, are_old, older_of}
use Rattle.store_opening.proofs.Strays.{never_stray}
use Rattle.store_opening.proofs.UsedNames.{used_of, used_names}

-- files of which this is seen have the same index of the pool
at_file : (raw all : Files) → seen raw ≡ all → (file : FileId) → seen raw file ≡ all file
at_file raw all same file = ap (λ (f : Files). f file) same

-- ---- a pool of an office is opened

pub pool_calm : (digest_of : List ℕ → List ℕ) (raw : Option Files) (all : Files) (office : Durable) → option_map seen raw ≡ Some all
    → StandsFor digest_of all office → ((files : Files) (index : Index) → raw ≡ Some files → TellsIndex index files
    → HaveFiles index files → ⊥) → ⊥
pool_calm digest_of raw all office is stands never =
    let w = told_raw raw all is in
    let at = at_file w.0 all w.2 in
    never w.0 stands.index w.1
    (tells_kept all w.0 (at F.PoolIndex) (λ byte. at (F.PoolBucket byte)) stands.index stands.stands.index_told)
    (λ id listed. ap is_some (at (F.Pool id) ∙ listed_held stands.index all stands.stands.one id listed))

tells_any : (in_one_file : Bool) (index : Index) (files : Files) → TellsIn in_one_file index files → TellsIndex index files
tells_any true index files tells = inl tells
tells_any false index files tells = inr tells

fresh_live : (slot : Option Slot) → IsFresh slot → is_given slot ≡ true → is_live slot ≡ true
fresh_live None fresh given = absurd (false≢true given)
fresh_live (Some (Live size mark claims)) fresh given = refl
fresh_live (Some (Staged size claims)) fresh given = absurd fresh
fresh_live (Some Doomed) fresh given = absurd (false≢true given)

-- ---- what was read is one of the two offices

-- the names that are in use, and the hosts that have tables of the first layout; the numbers of the next stage and reader are not on the
-- disk
abbrev found_names : {N S : Type 0} {n : NamerGhosts N S} → Found N S n → Files → Durable → Names
found_names {n = n} found all office = record {
  digest_of = n.digest_of;
  used = used_of found.pool.names;
  next_stage = 0;
  next_reader = 0;
  old_hosts = old_hosts_of office.hosts all;
}

module _ {D N S : Type 0} {d : DiskGhosts D} {n : NamerGhosts N S} where
  read_one : (new : Journal D d) (found : Found N S n) (all raw : Files) (office : Durable) → new.halted ≡ false → told new ≡ Some all
      → seen raw ≡ all → ((id : PoolId) → uncertain new (F.Pool id) ≡ false) → Opens found.pool.in_one_file (slots_of found.pool.names) raw
      → AreFresh (slots_of found.pool.names) → HoldsCatalog all found.catalog → StandsFor n.digest_of all office
      → IsStored new found.pool found.catalog office (found_names found all office)
  read_one new found all raw office ready told_is same certain opens fresh holds s = record {
    journal_ready = ready;
    all = all;
    shown = s.shown;
    told_is = told_is;
    stands = stands;
    tells = tells;
    fits = fits_stands n.digest_of slots s.shown all office (uncertain new) (λ id given. fresh_live (slots id) (fresh id) given)
        (λ id live. certain id) stands;
    all_used = λ id there. opens.used id ∙ ap is_some (at_file raw all same (F.Pool id)) ∙ there;
    used = used_names found.pool.names;
    digest = refl;
    second = (are_old office.hosts all s.stands.nothing_else).no_other;
    catalog_is = one_catalog n.digest_of s.index s.shown all office s.stands found.catalog holds;
  }
    where
      slots : Slots
      slots = slots_of found.pool.names

      tells : TellsIn found.pool.in_one_file (index_of slots) all
      tells =
          let at = at_file raw all same in
          tells_in_kept found.pool.in_one_file (index_of slots) raw all (sym (at F.PoolIndex)) (λ byte. sym (at
          (F.PoolBucket byte))) opens.tells

      index_is : s.index ≡ index_of slots
      index_is = λ i id. one_listing s.index (index_of slots) all s.stands.index_told
          (tells_any found.pool.in_one_file (index_of slots) all tells) id i

      stands : Stands n.digest_of (index_of slots) s.shown all office
      stands = subst (λ (index : Index). Stands n.digest_of index s.shown all office) index_is s.stands

  held_one : (new : Journal D d) (found : Found N S n) (all raw : Files) (office : Durable) → new.halted ≡ false → told new ≡ Some all
      → seen raw ≡ all → ((id : PoolId) → uncertain new (F.Pool id) ≡ false) → Opens found.pool.in_one_file (slots_of found.pool.names) raw
      → AreFresh (slots_of found.pool.names) → HoldsCatalog all found.catalog
      → AreTold all (length found.catalog.hosts) found.counts → ArePartialsTold all (length found.catalog.hosts) found.partials
      → StandsFor n.digest_of all office → IsHeld new found.pool found.catalog found.counts found.partials office (found_names found all office)
  unfolding read_one
  held_one new found all raw office ready told_is same certain opens fresh holds told parked s = record {
    stored = read_one new found all raw office ready told_is same certain opens fresh holds s;
    counted = counts_of_office n.digest_of s.index s.shown all office s.stands found.catalog found.counts holds told;
    parked = heads_of_office n.digest_of s.index s.shown all office s.stands found.catalog found.partials holds parked;
  }

  pub recovered_by : (old new : Journal D d) (found : Found N S n) (a b : Durable) → old.halted ≡ false → Quiet old new
      → Holds n.digest_of old a b
      → ((all : Files) → d.files old.disk ≡ Some all → Opens found.pool.in_one_file (slots_of found.pool.names) all)
      → AreFresh (slots_of found.pool.names) → ((all : Files) → told old ≡ Some all → HoldsCatalog all found.catalog)
      → ((all : Files) → told old ≡ Some all → AreTold all (length found.catalog.hosts) found.counts)
      → ((all : Files) → told old ≡ Some all → ArePartialsTold all (length found.catalog.hosts) found.partials) → Recovers new found a b
  recovered_by old new found a b ready quiet holds opens fresh catalog counts partials = step holds.either
    where
      raw : (files : Files) × (d.files old.disk ≡ Some files) × (seen files ≡ holds.all)
      raw = told_raw (d.files old.disk) holds.all holds.told_is

      held : (office : Durable) → StandsFor n.digest_of holds.all office
          → IsHeld new found.pool found.catalog found.counts found.partials office (found_names found holds.all office)
      held office s =
          held_one new found holds.all raw.0 office (quiet.halted_same ∙ ready) (quiet.told_same ∙ holds.told_is) raw.2
          (λ id. quiet.certain.each (F.Pool id) (holds.certain.each (F.Pool id) refl)) (opens raw.0 raw.1) fresh (catalog holds.all holds.told_is)
          (counts holds.all holds.told_is) (partials holds.all holds.told_is) s

      older : (office : Durable) → StandsFor n.digest_of holds.all office
          → AreOldIn (told new) (found_names found holds.all office).old_hosts
      older office s =
          older_of (old_hosts_of office.hosts holds.all) holds.all (told new) (quiet.told_same ∙ holds.told_is)
          (are_old office.hosts holds.all s.stands.nothing_else)

      step : IsEither n.digest_of a b holds.all → Recovers new found a b
      step (inl s) = record {
        office = a;
        is_one = inl refl;
        names = found_names found holds.all a;
        held = held a s;
        older = older a s;
        fresh = fresh;
      }
      step (inr s) = record {
        office = b;
        is_one = inr refl;
        names = found_names found holds.all b;
        held = held b s;
        older = older b s;
        fresh = fresh;
      }

-- ---- what is foreign to hosts is foreign, and was so before a read

pub foreign_hosts : (old now : Option Files) (file : FileId) (found : Option (List ℕ)) → now ≡ old
    → IsForeignToCatalog now file found ⊎ ((all : Files) → now ≡ Some all → IsForeignToHosts all file found) → IsForeign old file found
foreign_hosts old now file found same (inl foreign) = inr (inl (subst (λ (t : Option Files). IsForeignToCatalog t file found) same foreign))
foreign_hosts old now file found same (inr without) = inr (inr (inl (λ all is. without all (same ∙ is))))

-- ---- files of one of the two are never foreign

module _ {D : Type 0} {d : DiskGhosts D} (digest_of : List ℕ → List ℕ) (journal : Journal D d) (a b : Durable)
    (holds : Holds digest_of journal a b) where
  abbrev of_either : {P : Type 0} → ((office : Durable) → StandsFor digest_of holds.all office → P) → P
  of_either each = elim holds.either [ inl s ↦ each a s | inr s ↦ each b s ]

  pub pool_known : ((all : Files) (index : Index) → d.files journal.disk ≡ Some all → TellsIndex index all → HaveFiles index all → ⊥) → ⊥
  pool_known never = of_either (λ office s. pool_calm digest_of (d.files journal.disk) holds.all office holds.told_is s never)

  pub hosts_known : ((all : Files) (office : Durable) → told journal ≡ Some all → StandsFor digest_of all office → ⊥) → ⊥
  hosts_known never = of_either (λ office s. never holds.all office holds.told_is s)

  pub stray_known : (file : FileId) (found : Option (List ℕ)) → ((all : Files) → told journal ≡ Some all → IsStray all file found) → ⊥
  stray_known file found stray = of_either (λ office s. never_stray digest_of holds.all office file found s (stray holds.all holds.told_is))
