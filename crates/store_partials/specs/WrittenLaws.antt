-- What stands in the files after the changes of a park, or of a drop of a partial.
--     none_of_index      no change is one of the pool's index
--     are_written      the changes name metadata files, none twice
--     second_part      none of the host's is a table
--     at_counts, at_partial      the host's counts and its partial have their new bytes
--     at_host, at_table      its index and its tables stay
--     at_other      another file of metadata stays, but those of the pool's index
--     at_pool_index, at_pool_bucket      those are as the changes of the index leave them
use Rattle.std.specs.Prelude.{◌≡◌, ◌==◌, ℕ, true, false, List, [], ◌++◌, Option, Some, slice_get}
use Rattle.std.proofs.Common.{refl, sym, ◌∙◌, inl, inr}
use Rattle.std.proofs.lemmas.Bool.{false≢true, eq-eqb}
use Rattle.disk_trait.specs.declared.ids.FileId.{FileId}
use Rattle.disk_trait.specs.declared.ids.FileId.TheVariants as F
use Rattle.disk_trait.specs.Names.{is_same_file}
use Rattle.disk_trait.specs.Files.{Files}
use Rattle.intent_journal.specs.declared.changes.Change.{Change}
use Rattle.intent_journal.specs.Changes.{applied, names, AreChanges}
use Rattle.intent_journal.specs.ChangesLaws.{either, applied_other}
use Rattle.office_files.specs.TableLayouts.{WriteNoFirst}
use Rattle.office_changes.specs.AppliedLaws.{applied_here}
use Rattle.office_changes.specs.ChangeLaws.{is_of_host, is_of_index}
use Rattle.office_changes.specs.JoinedLaws.{applied_both, are_both, not_hosts}
use Rattle.store_commits.specs.WrittenLaws.{AreOfIndex}
use Rattle.store_partials.specs.Written.{change_to, host_part}

pub none_of_index : AreOfIndex []
none_of_index = record { are = tt; only = λ file named. absurd (false≢true named) }

index_not_hosts : (host : ℕ) (file : FileId) → is_of_index file ≡ true → is_of_host host file ≡ false
index_not_hosts host F.Head e = refl
index_not_hosts host F.Intent e = refl
index_not_hosts host F.Gate e = refl
index_not_hosts host (F.Host other) e = absurd (false≢true e)
index_not_hosts host (F.Table other number) e = absurd (false≢true e)
index_not_hosts host (F.Counts other) e = absurd (false≢true e)
index_not_hosts host F.PoolIndex e = refl
index_not_hosts host (F.PoolBucket byte) e = refl
index_not_hosts host (F.Partial other) e = absurd (false≢true e)
index_not_hosts host (F.Pool id) e = refl
index_not_hosts host (F.Stage number) e = refl

module _ (host : ℕ) (counts : List ℕ) (partial : Option (List ℕ)) where
  pub are_host_part : AreChanges (host_part host counts partial)
  unfolding is_same_file
  are_host_part = (refl, refl, (refl, refl, tt))

  -- none is a table
  pub second_part : WriteNoFirst (host_part host counts partial)
  second_part = (refl, (refl, tt))

  -- the host's index and its tables aren't named
  index_apart : names (host_part host counts partial) (F.Host host) ≡ false
  unfolding is_same_file
  index_apart = refl

  table_apart : (number : ℕ) → names (host_part host counts partial) (F.Table host number) ≡ false
  unfolding is_same_file
  table_apart number = refl

  -- nor is a file of no host, or of another
  host_part_out : (asked : FileId) → is_of_host host asked ≡ false → names (host_part host counts partial) asked ≡ false
  host_part_out asked out =
      rw (not_hosts host asked (F.Counts host) out itself, not_hosts host asked (F.Partial host) out itself) refl
    where
      itself : (host == host) ≡ true
      itself = eq-eqb host host refl

module _ (pooled : List Change) (host : ℕ) (counts : List ℕ) (partial : Option (List ℕ)) (all : Files) (of_index : AreOfIndex pooled) where
  abbrev image : Files
  image = applied (pooled ++ host_part host counts partial) all

  out_of_index : (file : FileId) → is_of_index file ≡ false → names pooled file ≡ false
  out_of_index file out = elim (either (names pooled file)) [
    | inl named ↦ absurd (false≢true (sym out ∙ of_index.only file named))
    | inr none ↦ none
  ]

  pub are_written : AreChanges (pooled ++ host_part host counts partial)
  are_written = are_both pooled (host_part host counts partial) of_index.are (are_host_part host counts partial)
      (λ file e. host_part_out host counts partial file (index_not_hosts host file (of_index.only file e)))

  here : (i : ℕ) (change : Change) → slice_get (host_part host counts partial) i ≡ Some change → image change.file ≡ change.bytes
  here i change e =
      (λ j. applied_both pooled (host_part host counts partial) all j change.file)
      ∙ applied_here (host_part host counts partial) (applied pooled all) (are_host_part host counts partial) i change e

  pub at_counts : image (F.Counts host) ≡ Some counts
  at_counts = here 0 (change_to (F.Counts host) (Some counts)) refl

  pub at_partial : image (F.Partial host) ≡ partial
  at_partial = here 1 (change_to (F.Partial host) partial) refl

  outside : (file : FileId) → names (host_part host counts partial) file ≡ false → image file ≡ applied pooled all file
  outside file none =
      (λ j. applied_both pooled (host_part host counts partial) all j file)
      ∙ applied_other (host_part host counts partial) (applied pooled all) file none

  pub at_host : image (F.Host host) ≡ all (F.Host host)
  at_host =
      outside (F.Host host) (index_apart host counts partial) ∙ applied_other pooled all (F.Host host) (out_of_index (F.Host host) refl)

  pub at_table : (number : ℕ) → image (F.Table host number) ≡ all (F.Table host number)
  at_table number =
      outside (F.Table host number) (table_apart host counts partial number)
      ∙ applied_other pooled all (F.Table host number) (out_of_index (F.Table host number) refl)

  pub at_other : (file : FileId) → is_of_host host file ≡ false → is_of_index file ≡ false → image file ≡ all file
  at_other file out none =
      outside file (host_part_out host counts partial file out) ∙ applied_other pooled all file (out_of_index file none)

  pub at_pool_index : image F.PoolIndex ≡ applied pooled all F.PoolIndex
  at_pool_index = outside F.PoolIndex (host_part_out host counts partial F.PoolIndex refl)

  pub at_pool_bucket : (byte : ℕ) → image (F.PoolBucket byte) ≡ applied pooled all (F.PoolBucket byte)
  at_pool_bucket byte = outside (F.PoolBucket byte) (host_part_out host counts partial (F.PoolBucket byte) refl)
