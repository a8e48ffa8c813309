-- What stands in the files after the changes of a commit.
--     one_index, written_is      the host's index is one change, and all of the host stand together
--     are_written      they name metadata files, none twice
--     at_index, at_table, at_counts, at_former      each file of the host has its new bytes
--     at_no_partial      the host has no partial's file
--     at_other      another file of metadata stays, but those of the pool's index
--     at_pool_index      those are as the changes of the index leave them
use Rattle.std.specs.Prelude.{◌≡◌, ◌≢◌, ◌==◌, ℕ, suc, Bool, true, false, List, [], ◌∷◌, ◌++◌, map, Option, Some, None, IfSome, slice_get}
use Rattle.std.proofs.Common.{refl, sym, ap, ◌∙◌, append_assoc, inl, inr}
use Rattle.std.proofs.lemmas.Bool.{false≢true, eq-eqb}
use Rattle.disk_trait.specs.declared.ids.FileId.{FileId}
use Rattle.disk_trait.specs.declared.ids.FileId.TheVariants as F
use Rattle.disk_trait.specs.Names.{is_same_file}
use Rattle.disk_trait.specs.Files.{Files}
use Rattle.intent_journal.specs.declared.changes.Change.{Change}
use Rattle.intent_journal.specs.Changes.{applied, names, AreChanges}
use Rattle.intent_journal.specs.ChangesLaws.{either, applied_other}
use Rattle.office_changes.specs.AppliedLaws.{applied_here}
use Rattle.office_changes.specs.ChangeLaws.{is_of_host, is_of_index}
use Rattle.office_changes.specs.JoinedLaws.{applied_both, are_both, other_table, not_hosts}
use Rattle.store_commits.specs.declared.files.Former.{Former}
use Rattle.store_commits.specs.declared.files.HostFiles.{HostFiles}
use Rattle.store_commits.specs.Written.{change_of, unparked_change, partial_part, last_part, other_part, index_change, host_part, written}

-- ---- the changes of a commit

-- of another number than the new backup's
abbrev pub IsFormer : ℕ → Option Former → Type 0
IsFormer number former = IfSome former (λ f. f.number ≢ number)

-- the former newest's table isn't this one
abbrev pub IsNotFormer : ℕ → Option Former → Type 0
IsNotFormer number former = IfSome former (λ f. number ≢ f.number)

module _ (host number : ℕ) (index : Option (List ℕ)) (files : HostFiles) where
  are_last : (former : Option Former) (parked : Bool) → IsFormer number former
      → AreChanges (change_of (F.Table host number) files.table ∷ change_of (F.Counts host) files.counts ∷ last_part host former parked)
  unfolding is_same_file
  are_last None false other = (refl, refl, (refl, refl, tt))
  are_last None true other = (refl, refl, (refl, refl, (refl, refl, tt)))
  are_last (Some former) false other =
      (refl, rw (other_table host number former.number (λ e. other (sym e))) refl, (refl, refl, (refl, refl, tt)))
  are_last (Some former) true other =
      (refl, rw (other_table host number former.number (λ e. other (sym e))) refl, (refl, refl, (refl, refl, (refl, refl, tt))))

  index_apart : (former : Option Former) (parked : Bool)
      → names (change_of (F.Table host number) files.table ∷ change_of (F.Counts host) files.counts ∷ last_part host former parked) (F.Host host) ≡ false
  unfolding is_same_file
  index_apart None false = refl
  index_apart None true = refl
  index_apart (Some former) false = refl
  index_apart (Some former) true = refl

  pub are_host_part : IsFormer number files.former → AreChanges (host_part host number index files)
  are_host_part other = (refl, index_apart files.former files.parked, are_last files.former files.parked other)

  partial_out : (parked : Bool) (asked : FileId) → is_of_host host asked ≡ false → names (partial_part host parked) asked ≡ false
  partial_out false asked out = refl
  partial_out true asked out = rw (not_hosts host asked (F.Partial host) out (eq-eqb host host refl)) refl

  last_out : (former : Option Former) (parked : Bool) (asked : FileId) → is_of_host host asked ≡ false
      → names (last_part host former parked) asked ≡ false
  last_out None parked asked out = partial_out parked asked out
  last_out (Some former) parked asked out = rw (not_hosts host asked (F.Table host former.number) out itself) (partial_out parked asked out)
    where
      itself : is_of_host host (F.Table host former.number) ≡ true
      itself = eq-eqb host host refl

  -- another file
  pub host_part_out : (asked : FileId) → is_of_host host asked ≡ false → names (host_part host number index files) asked ≡ false
  host_part_out asked out =
      rw (
        not_hosts host asked (F.Host host) out itself,
        not_hosts host asked (F.Table host number) out itself,
        not_hosts host asked (F.Counts host) out itself,
      ) (last_out files.former files.parked asked out)
    where
      itself : (host == host) ≡ true
      itself = eq-eqb host host refl

  table_out_last : (former : Option Former) (parked : Bool) (other : ℕ) → IsNotFormer other former
      → names (last_part host former parked) (F.Table host other) ≡ false
  unfolding is_same_file
  table_out_last None false other out = refl
  table_out_last None true other out = refl
  table_out_last (Some former) false other out = rw (other_table host other former.number out) refl
  table_out_last (Some former) true other out = rw (other_table host other former.number out) refl

  -- another table of the host
  pub table_out : (other : ℕ) → other ≢ number → IsNotFormer other files.former → names (host_part host number index files) (F.Table host other) ≡ false
  unfolding is_same_file
  table_out other apart out = rw (other_table host other number apart) (table_out_last files.former files.parked other out)

  partial_kept : (former : Option Former) (parked : Bool) → parked ≡ false → names (last_part host former parked) (F.Partial host) ≡ false
  unfolding is_same_file
  partial_kept None false e = refl
  partial_kept None true e = absurd cc
  partial_kept (Some former) false e = refl
  partial_kept (Some former) true e = absurd cc

  -- the partial, if there is none
  pub no_partial_named : files.parked ≡ false → names (host_part host number index files) (F.Partial host) ≡ false
  unfolding is_same_file
  no_partial_named none = partial_kept files.former files.parked none

  last_there : (former : Option Former) (parked : Bool) → parked ≡ true
      → (i : ℕ) × (slice_get (change_of (F.Table host number) files.table ∷ change_of (F.Counts host) files.counts ∷ last_part host former parked) i
      ≡ Some (unparked_change host))
  last_there None false e = absurd cc
  last_there None true e = (2, refl)
  last_there (Some former) false e = absurd cc
  last_there (Some former) true e = (3, refl)

index_not_hosts : (host : ℕ) (file : FileId) → is_of_index file ≡ true → is_of_host host file ≡ false
index_not_hosts host F.Head e = absurd (false≢true e)
index_not_hosts host F.Intent e = absurd (false≢true e)
index_not_hosts host F.Gate e = absurd (false≢true e)
index_not_hosts host (F.Host other) e = absurd (false≢true e)
index_not_hosts host (F.Table other number) e = absurd (false≢true e)
index_not_hosts host (F.Counts other) e = absurd (false≢true e)
index_not_hosts host F.PoolIndex e = refl
index_not_hosts host (F.PoolBucket byte) e = refl
index_not_hosts host (F.Partial other) e = absurd (false≢true e)
index_not_hosts host (F.Pool id) e = absurd (false≢true e)
index_not_hosts host (F.Stage number) e = absurd (false≢true e)

-- the changes of the pool's index, and no others
pub record AreOfIndex (index : List Change) : Type 0 where
  pub are : AreChanges index
  pub only : (file : FileId) → names index file ≡ true → is_of_index file ≡ true

-- the change of the host's index is one
pub one_index : (changes : List Change) (host : ℕ) → map (λ change. change.file) changes ≡ F.Host host ∷ []
    → (index : Option (List ℕ)) × (changes ≡ index_change host index ∷ [])
one_index [] host e = absurd cc
one_index (change ∷ []) host e =
    let same : change.file ≡ F.Host host = cc in (change.bytes, λ i. record { file = same i; bytes = change.bytes } ∷ [])
one_index (change ∷ other ∷ more) host e = absurd cc

pub written_is : (pooled listed : List Change) (host number : ℕ) (index : Option (List ℕ)) (files : HostFiles) → listed ≡ index_change host index ∷ []
    → written pooled listed host number files ≡ pooled ++ host_part host number index files
written_is pooled listed host number index files is =
    ap (λ (l : List Change). (pooled ++ l) ++ other_part host number files) is
    ∙ append_assoc pooled (index_change host index ∷ []) (other_part host number files)

module _ (pooled : List Change) (host number : ℕ) (index : Option (List ℕ)) (files : HostFiles) (all : Files) (of_index : AreOfIndex pooled)
    (former : IsFormer number files.former) where
  abbrev image : Files
  image = applied (pooled ++ host_part host number index files) all

  out_of_index : (file : FileId) → is_of_index file ≡ false → names pooled file ≡ false
  out_of_index file out = elim (either (names pooled file)) [
    | inl named ↦ absurd (false≢true (sym out ∙ of_index.only file named))
    | inr none ↦ none
  ]

  pub are_written : AreChanges (pooled ++ host_part host number index files)
  are_written = are_both pooled (host_part host number index files) of_index.are (are_host_part host number index files former)
      (λ file e. host_part_out host number index files file (index_not_hosts host file (of_index.only file e)))

  here : (i : ℕ) (change : Change) → slice_get (host_part host number index files) i ≡ Some change → image change.file ≡ change.bytes
  here i change e =
      (λ j. applied_both pooled (host_part host number index files) all j change.file)
      ∙ applied_here (host_part host number index files) (applied pooled all) (are_host_part host number index files former) i change e

  pub at_host : image (F.Host host) ≡ index
  at_host = here 0 (index_change host index) refl

  pub at_table : image (F.Table host number) ≡ Some files.table
  at_table = here 1 (change_of (F.Table host number) files.table) refl

  pub at_counts : image (F.Counts host) ≡ Some files.counts
  at_counts = here 2 (change_of (F.Counts host) files.counts) refl

  pub at_former : (f : Former) → files.former ≡ Some f → image (F.Table host f.number) ≡ Some f.table
  at_former f e = here 3 (change_of (F.Table host f.number) f.table)
      (ap (λ (o : Option Former). slice_get (last_part host o files.parked) 0) e)

  at_partial : files.parked ≡ true → image (F.Partial host) ≡ None
  at_partial parked =
      let w = last_there host number index files files.former files.parked parked in
      here (suc w.0) (unparked_change host) w.1

  outside : (file : FileId) → names (host_part host number index files) file ≡ false → image file ≡ applied pooled all file
  outside file none =
      (λ j. applied_both pooled (host_part host number index files) all j file)
      ∙ applied_other (host_part host number index files) (applied pooled all) file none

  pub at_other : (file : FileId) → is_of_host host file ≡ false → is_of_index file ≡ false → image file ≡ all file
  at_other file out none = outside file (host_part_out host number index files file out) ∙ applied_other pooled all file (out_of_index file none)

  pub at_other_table : (other : ℕ) → other ≢ number → IsNotFormer other files.former → image (F.Table host other) ≡ all (F.Table host other)
  at_other_table other apart out =
      outside (F.Table host other) (table_out host number index files other apart out)
      ∙ applied_other pooled all (F.Table host other) (out_of_index (F.Table host other) refl)

  no_partial_left : files.parked ≡ false → all (F.Partial host) ≡ None → image (F.Partial host) ≡ None
  no_partial_left none absent =
      outside (F.Partial host) (no_partial_named host number index files none)
      ∙ applied_other pooled all (F.Partial host) (out_of_index (F.Partial host) refl) ∙ absent

  -- the host's partial has no file, if it had none that isn't known
  pub at_no_partial : (files.parked ≡ false → all (F.Partial host) ≡ None) → image (F.Partial host) ≡ None
  at_no_partial known = elim (either files.parked) [
    | inl parked ↦ at_partial parked
    | inr none ↦ no_partial_left none (known none)
  ]

  pub at_pool_index : image F.PoolIndex ≡ applied pooled all F.PoolIndex
  at_pool_index = outside F.PoolIndex (host_part_out host number index files F.PoolIndex refl)

  pub at_pool_bucket : (byte : ℕ) → image (F.PoolBucket byte) ≡ applied pooled all (F.PoolBucket byte)
  at_pool_bucket byte = outside (F.PoolBucket byte) (host_part_out host number index files (F.PoolBucket byte) refl)
