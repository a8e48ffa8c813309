-- What opening a disk comes to.
--     IsOf      each image of the disk stands for one of two offices
--     Opened      one of them is at work, in its next epoch, and its first stage and reader are number 0; its old hosts are those that
--         have a table of the first layout
--     Left      what a disk was left with that wasn't opened
use Rattle.std.specs.Prelude.{◌≡◌, ◌⊎◌, ◌<◌, ◌≤◌, ℕ, true, List, Option, is_some}
use Rattle.disk_trait.specs.declared.disk.Disk.{Ghosts as DiskGhosts}
use Rattle.disk_trait.specs.Files.{Files}
use Rattle.disk_trait.specs.Images.{FileSet}
use Rattle.pool_name.specs.declared.namer.Namer.{Ghosts as NamerGhosts}
use Rattle.journal_view.specs.Found.{FindsAll}
use Rattle.journal_view.specs.View.{told}
use Rattle.office_model.specs.Office.{Durable, Names, raised, reopened, last_sequence}
use Rattle.office_model.specs.Step.{IsPicked}
use Rattle.open_sessions.specs.Opened.{AreNumbers}
use Rattle.store_parts.specs.declared.parts.StoreParts.{StoreParts}
use Rattle.store_parts.specs.Held.{IsEither}
use Rattle.store_parts.specs.States.{IsRunning}
use Rattle.store_opening.specs.declared.fault.OpenRefusal.{OpenRefusal}
use Rattle.store_opening.specs.declared.fault.OpenRefusal.TheVariants.{Foreign, EpochsSpent, DiskFault, Memory}
use Rattle.store_opening.specs.KeptTables.{AreOldIn}

-- a disk that tells its files, each image of which stands for one of two offices
pub record IsOf (digest_of : List ℕ → List ℕ) (told : Option Files) (uncertain : FileSet) (a b : Durable) : Type 0 where
  pub each : FindsAll told uncertain (IsEither digest_of a b)
  pub tells : is_some told ≡ true

-- one of the two has the last epoch
pub record HasLast (a b : Durable) : Type 0 where
  pub office : Durable
  pub is_one : IsPicked a b office
  pub last : last_sequence ≤ office.epoch

-- what the disk is left with: the two offices, or after a fault one of them as it was or in its next epoch
abbrev pub Left : (List ℕ → List ℕ) → Option Files → FileSet → Durable → Durable → OpenRefusal → Type 0
Left digest_of told uncertain a b (Foreign file found) = ⊥
Left digest_of told uncertain a b EpochsSpent = HasLast a b × IsOf digest_of told uncertain a b
Left digest_of told uncertain a b DiskFault =
    IsOf digest_of told uncertain a b
    ⊎ ((office : Durable) × IsPicked a b office × IsOf digest_of told uncertain office (raised office))
Left digest_of told uncertain a b Memory = IsOf digest_of told uncertain a b

module _ {D N S : Type 0} {d : DiskGhosts D} {n : NamerGhosts N S} where
  -- One of the two offices is at work in its next epoch, and no stage and no reader had a number yet. Its old hosts are exactly those
  -- that have a table of the first layout.
  pub record Opened (a b : Durable) (parts : StoreParts D N S d n) : Type 0 where
    pub office : Durable
    pub is_one : IsPicked a b office
    pub room : office.epoch < last_sequence
    pub names : Names
    pub numbers : AreNumbers 0 0 parts.sessions
    pub running : IsRunning parts (reopened office) names
    pub older : AreOldIn (told parts.journal) names.old_hosts
