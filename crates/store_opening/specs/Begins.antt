-- What an opening comes to, of files that stand for one of two offices.
--     MayLeave      what a crash meanwhile leaves: one of the two, or one of them in its next epoch
--     Begins      how it went
use Rattle.std.specs.Prelude.{◌⊎◌, ◌<◌, ◌≤◌, ℕ, List, Result, Ok, Err}
use Rattle.disk_trait.specs.declared.disk.Disk.{Ghosts as DiskGhosts}
use Rattle.disk_trait.specs.Files.{Files}
use Rattle.pool_name.specs.declared.namer.Namer.{Ghosts as NamerGhosts}
use Rattle.intent_journal.specs.declared.journal.Journal.{Journal}
use Rattle.journal_view.specs.View.{told}
use Rattle.pool_changes.specs.Kept.{slots_of}
use Rattle.pool_store.specs.Opening.{AreFresh}
use Rattle.office_model.specs.Office.{Durable, Names, IsSoundDurable, raised, last_sequence}
use Rattle.office_model.specs.Step.{IsPicked}
use Rattle.store_parts.specs.Held.{IsEither, MayBe}
use Rattle.store_opening.specs.declared.found.Found.{Found}
use Rattle.store_opening.specs.declared.fault.OpenRefusal.{OpenRefusal}
use Rattle.store_opening.specs.declared.fault.OpenRefusal.TheVariants.{Foreign, EpochsSpent, DiskFault, Memory}
use Rattle.store_opening.specs.KeptTables.{AreOldIn}
use Rattle.store_opening.specs.Recovers.{IsHeld}

abbrev pub MayLeave : (List ℕ → List ℕ) → Durable → Durable → Files → Type 0
MayLeave digest_of a b found = IsEither digest_of a b found ⊎ IsEither digest_of (raised a) (raised b) found

-- refused by the rule or for want of memory
abbrev pub IsPlain : OpenRefusal → Type 0
IsPlain (Foreign file found) = ⊥
IsPlain EpochsSpent = Unit {0}
IsPlain DiskFault = ⊥
IsPlain Memory = Unit {0}

module _ {D : Type 0} {d : DiskGhosts D} (digest_of : List ℕ → List ℕ) (a b : Durable) where
  -- one of the two has the last epoch
  pub record IsSpent (new : Journal D d) : Type 0 where
    pub office : Durable
    pub is_one : IsPicked a b office
    pub last : last_sequence ≤ office.epoch
    pub now : MayBe digest_of new a b

  -- a crash now leaves one of the two, or one of them as it was or in its next epoch
  abbrev pub IsBetween : Journal D d → Type 0
  IsBetween new = MayBe digest_of new a b ⊎ ((office : Durable) × IsPicked a b office × MayBe digest_of new office (raised office))

module _ {D N S : Type 0} {d : DiskGhosts D} {n : NamerGhosts N S} where
  -- one of the two is there, in its next epoch, with the hosts that have tables of the first layout; nothing is staged or claimed
  pub record Raised (new : Journal D d) (found : Found N S n) (a b : Durable) : Type 0 where
    pub office : Durable
    pub is_one : IsPicked a b office
    pub room : office.epoch < last_sequence
    pub sound : IsSoundDurable office
    pub names : Names
    pub held : IsHeld new found.pool found.catalog found.counts found.partials (raised office) names
    pub open held use *
    pub older : AreOldIn (told new) names.old_hosts
    pub fresh : AreFresh (slots_of found.pool.names)

  abbrev pub Begins : Durable → Durable → Result (Found N S n) OpenRefusal → Journal D d → Type 0
  Begins a b (Ok found) new = Raised new found a b
  Begins a b (Err (Foreign file found)) new = ⊥
  Begins a b (Err EpochsSpent) new = IsSpent n.digest_of a b new
  Begins a b (Err DiskFault) new = IsBetween n.digest_of a b new
  Begins a b (Err Memory) new = MayBe n.digest_of new a b
