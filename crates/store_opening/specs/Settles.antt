-- What a crash of an opening leaves: up to the first sync that succeeded one of two offices, and from then on one alone.
--     Synced      a disk came to files;  ComesToOne      it came to an office
--     IsOfOne      a disk at rest of one office, which a crash left as it was or in its next epoch
--     Ends, Settles      the same of an opening and of a reopening, whatever it answers
use Rattle.std.specs.Prelude.{◌≡◌, ◌⊎◌, ℕ, List, Some, Result, Ok, Err, option_map}
use Rattle.disk_trait.specs.declared.disk.Disk.{Ghosts as DiskGhosts}
use Rattle.disk_trait.specs.Files.{Files}
use Rattle.disk_trait.specs.Images.{MayLeave, Leaves, LeavesOnly}
use Rattle.pool_name.specs.declared.namer.Namer.{Ghosts as NamerGhosts}
use Rattle.intent_journal.specs.declared.journal.Journal.{Journal}
use Rattle.journal_view.specs.Found.{seen, Finds, CanFind}
use Rattle.office_model.specs.Office.{Durable, raised}
use Rattle.office_model.specs.Step.{IsPicked}
use Rattle.office_files.specs.Stands.{StandsFor}
use Rattle.store_parts.specs.Held.{IsEither}
use Rattle.store_opening.specs.declared.found.Found.{Found}
use Rattle.store_opening.specs.declared.fault.OpenRefusal.{OpenRefusal}
use Rattle.store_opening.specs.Begins.{Raised}

module _ {D : Type 0} (d : DiskGhosts D) where
  -- up to the first sync that succeeded a crash left what it might have left at the start, and from then on these files
  pub record Synced (old new : D) (found : Files) : Type 0 where
    pub synced : D
    pub up_to : Leaves d.moment d.left_since old synced (MayLeave (d.files old) (d.uncertain old))
    pub from_then : LeavesOnly d.moment d.left_since synced new (Finds (λ files. files ≡ found))

  -- a journal of the disk was opened, and tells the files to which the disk came
  pub record IsSynced (old new : D) : Type 0 where
    pub found : Files
    pub told_is : option_map seen (d.files new) ≡ Some found
    pub came : Synced old new found

  -- it wasn't: a crash left no more than at the start, or the disk came to files that could be found there
  abbrev pub MayBeSynced : D → D → Type 0
  MayBeSynced old new =
      Leaves d.moment d.left_since old new (MayLeave (d.files old) (d.uncertain old))
      ⊎ ((found : Files) × CanFind (d.files old) (d.uncertain old) found × Synced old new found)

  -- up to the first sync that succeeded a crash left one of the two, and from then on this one, as it was or in its next epoch
  pub record ComesToOne (digest_of : List ℕ → List ℕ) (old new : D) (a b office : Durable) : Type 0 where
    pub synced : D
    pub up_to : Leaves d.moment d.left_since old synced (Finds (IsEither digest_of a b))
    pub from_then : LeavesOnly d.moment d.left_since synced new (Finds (IsEither digest_of office (raised office)))

  -- an opening was refused: a crash left one of the two, and nothing else, or the disk came to one of them
  abbrev pub IsStopped : (List ℕ → List ℕ) → D → D → Durable → Durable → Type 0
  IsStopped digest_of old new a b =
      Leaves d.moment d.left_since old new (Finds (IsEither digest_of a b))
      ⊎ ((office : Durable) × IsPicked a b office × ComesToOne digest_of old new a b office)

  -- the disk stood for this office, and a crash left it as it was or in its next epoch
  pub record IsOfOne (digest_of : List ℕ → List ℕ) (old new : D) (office : Durable) : Type 0 where
    pub was : (all : Files) → option_map seen (d.files old) ≡ Some all → StandsFor digest_of all office
    pub crash : Leaves d.moment d.left_since old new (Finds (IsEither digest_of office (raised office)))

module _ {D N S : Type 0} {d : DiskGhosts D} {n : NamerGhosts N S} where
  -- the office that an opening began with
  abbrev pub Ends : Durable → Durable → Result (Found N S n) OpenRefusal → D → Journal D d → Type 0
  Ends a b (Ok found) old new = (r : Raised new found a b) × IsOfOne d n.digest_of old new.disk r.office
  Ends a b (Err refusal) old new = (office : Durable) × IsPicked a b office × IsOfOne d n.digest_of old new.disk office

  -- and that to which the disk came
  abbrev pub Settles : Durable → Durable → Result (Found N S n) OpenRefusal → D → Journal D d → Type 0
  Settles a b (Ok found) old new = (r : Raised new found a b) × ComesToOne d n.digest_of old new.disk a b r.office
  Settles a b (Err refusal) old new = IsStopped d n.digest_of old new.disk a b
