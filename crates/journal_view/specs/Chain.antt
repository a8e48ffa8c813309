-- Openings and crashes, one after the other.
--     Restarts      an opening was tried, a crash since its start left an image, and a disk starts from that
--     AreRestarts      so one after the other
use Rattle.std.specs.Prelude.{◌≡◌, ◌⊎◌, List, [], ◌∷◌, Some}
use Rattle.disk_trait.specs.declared.ids.FileId.{FileId}
use Rattle.disk_trait.specs.declared.disk.Disk.{Ghosts}
use Rattle.disk_trait.specs.Files.{Files}
use Rattle.disk_trait.specs.Images.{nothing, IsWithin}
use Rattle.intent_journal.specs.declared.fault.OpenJournalFault.{OpenJournalFault}
use Rattle.intent_journal.specs.declared.journal.Journal.{Journal}
use Rattle.intent_journal.specs.Calls.{Opens, Refuses}
use Rattle.journal_view.specs.Found.{FindsAll, CanFind}

-- an opening was tried, and came to an end
abbrev pub IsTried : {D : Type 0} → Ghosts D → D → D → Type 0
IsTried {D} d start stop =
    ((journal : Journal D d) × (stop ≡ journal.disk) × Opens {d = d} start journal)
    ⊎ ((fault : OpenJournalFault) × Refuses d.files d.uncertain d.moment d.left_since d.fault_count start stop fault)

-- An opening was tried; a crash at some moment since its start left an image, from which a disk starts.
pub record Restarts {D : Type 0} (d : Ghosts D) (start next : D) : Type 0 where
  pub stop : D
  pub tried : IsTried d start stop
  pub image : Files
  pub left : d.left_since stop (d.moment start) image
  pub all : Files
  pub told : d.files next ≡ Some all
  pub same : (asked : FileId) → all asked ≡ image asked
  pub certain : IsWithin (d.uncertain next) nothing

-- a crash at some moment since the first disk's left what the last one starts from
pub record Crashed {D : Type 0} (d : Ghosts D) (start stop next : D) : Type 0 where
  pub image : Files
  pub left : d.left_since stop (d.moment start) image
  pub all : Files
  pub told : d.files next ≡ Some all
  pub same : (asked : FileId) → all asked ≡ image asked
  pub certain : IsWithin (d.uncertain next) nothing

abbrev pub AreRestarts : {D : Type 0} → Ghosts D → D → List D → Type 0
AreRestarts {D} d start [] = Unit {0}
AreRestarts {D} d start (next ∷ more) = Restarts d start next × AreRestarts d next more

-- each of these disks can be opened whatever a crash leaves of it, and what is found has P
abbrev pub EachFinds : {D : Type 0} → Ghosts D → (Files → Type 0) → List D → Type 0
EachFinds {D} d P [] = Unit {0}
EachFinds {D} d P (disk ∷ disks) = FindsAll (d.files disk) (d.uncertain disk) P × EachFinds d P disks

-- the same of a journal, at work or halted, on whose disk a crash comes
abbrev pub AreRestartsOf : {D : Type 0} {d : Ghosts D} → Journal D d → List D → Type 0
AreRestartsOf {D} {d} journal disks = AreRestarts d journal.disk disks

abbrev pub EachFindsOf : {D : Type 0} {d : Ghosts D} → Journal D d → List D → Type 0
EachFindsOf {D} {d} journal disks = EachFinds d (CanFind (d.files journal.disk) (d.uncertain journal.disk)) disks
