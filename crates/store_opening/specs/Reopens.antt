-- What a reopening of a store does, whatever state it is in.
--     IsOfFound parts found next_stage next_reader      the parts are what was found, with nothing open
--     Goes      how it went, of a store that a crash would have left with one of two offices
--     GoesTo      to which of the two the disk came
--     Reopens      it went so, and a refusal changed nothing but what is said here
--     first_of, second_of      the two offices of a state, of which a crash leaves one
use Rattle.std.specs.Prelude.{List, ℕ, ◌≡◌, ◌<◌, ◌+◌, Bool, true, false, None, Ok, Err, IfOk, OnOk, is_some, Option, Some}
use Rattle.fault_counts.specs.Counts.{Counted}
use Rattle.disk_trait.specs.declared.ids.FileId.{FileId}
use Rattle.disk_trait.specs.declared.disk.Disk.{Ghosts as DiskGhosts}
use Rattle.disk_trait.specs.Files.{Files}
use Rattle.pool_name.specs.declared.namer.Namer.{Ghosts as NamerGhosts}
use Rattle.intent_journal.specs.declared.journal.Journal.{Journal}
use Rattle.journal_view.specs.View.{told, uncertain, Quiet, FindsNow, FindsOnly}
use Rattle.pool_changes.specs.Kept.{slots_of}
use Rattle.pool_store.specs.Opening.{AreThePoolFiles}
use Rattle.office_model.specs.declared.answer.Answer.{Answer}
use Rattle.office_model.specs.declared.answer.Answer.TheVariants.{Reopened as ReopenedAnswer}
use Rattle.office_model.specs.declared.refusal.BrokenRule.{BrokenRule}
use Rattle.office_model.specs.declared.refusal.BrokenRule.TheVariants.{NumbersSpent}
use Rattle.office_model.specs.declared.refusal.Refusal.{Refusal}
use Rattle.office_model.specs.declared.refusal.Refusal.TheVariants.{Broken, Halted as HaltedReply, DiskFault, Damaged, Memory}
use Rattle.office_model.specs.Meaning.{Reply}
use Rattle.office_model.specs.Office.{Durable, Names, reopened, last_sequence}
use Rattle.office_model.specs.declared.event.Event.TheVariants.{Reopen}
use Rattle.office_model.specs.Step.{State, Running, Halted, IsAnswerTo, IsPicked}
use Rattle.open_sessions.specs.Opened.{AreNone, AreNumbers}
use Rattle.store_parts.specs.declared.parts.StoreParts.{StoreParts}
use Rattle.store_parts.specs.Held.{MayBe}
use Rattle.store_parts.specs.States.{IsRunning}
use Rattle.store_parts.specs.Runs.{IsAtWork, StaysAtWork}
use Rattle.store_opening.specs.declared.fault.OpenRefusal.{OpenRefusal}
use Rattle.store_opening.specs.declared.fault.OpenRefusal.TheVariants as O
use Rattle.store_opening.specs.declared.found.Found.{Found}
use Rattle.store_opening.specs.KeptTables.{HasTablesFound}
use Rattle.store_opening.specs.Recovers.{IsForeignTo}
use Rattle.store_opening.specs.Begins.{MayLeave, IsSpent, IsBetween}
use Rattle.store_opening.specs.Settles.{ComesToOne, IsStopped}
use Rattle.store_opening.specs.Whole.{IsLast, HasAllOf, HasBuckets}

-- what a store answers to a reopening that was refused
abbrev pub reply_of : OpenRefusal → Refusal
reply_of (O.Foreign file found) = Damaged file found
reply_of O.EpochsSpent = Broken NumbersSpent
reply_of O.DiskFault = DiskFault
reply_of O.Memory = Memory

-- whether a refusal leaves the store halted, though it was at work
abbrev pub halts : OpenRefusal → Bool
halts (O.Foreign file found) = true
halts O.EpochsSpent = false
halts O.DiskFault = true
halts O.Memory = false

-- refused by a rule or for want of memory
abbrev pub IsPlainReply : Reply → Type 0
IsPlainReply (Ok answer) = ⊥
IsPlainReply (Err (Broken rule)) = Unit {0}
IsPlainReply (Err HaltedReply) = ⊥
IsPlainReply (Err DiskFault) = ⊥
IsPlainReply (Err (Damaged file found)) = ⊥
IsPlainReply (Err Memory) = Unit {0}

-- the disk failed, or a file isn't the store's
abbrev pub IsStoppingReply : Reply → Type 0
IsStoppingReply (Err DiskFault) = Unit {0}
IsStoppingReply (Err (Damaged file found)) = Unit {0}
IsStoppingReply reply = ⊥

-- the two offices of which a crash now leaves one
abbrev pub first_of : State → Durable
first_of (Running office names) = office.durable
first_of (Halted a b names) = a

abbrev pub second_of : State → Durable
second_of (Running office names) = office.durable
second_of (Halted a b names) = b

module _ {D N S : Type 0} {d : DiskGhosts D} {n : NamerGhosts N S} where
  -- the parts with another journal, halted or not
  abbrev pub with_journal : StoreParts D N S d n → Journal D d → Bool → StoreParts D N S d n
  with_journal parts journal halted = record parts { journal = journal; halted = halted }

  -- the parts are at work on what was found, and nothing is open; the next stage and the next reader have these numbers
  pub record IsOfFound (parts : StoreParts D N S d n) (found : Found N S n) (next_stage next_reader : ℕ) : Type 0 where
    pub ready : parts.halted ≡ false
    pub pool_is : parts.pool ≡ found.pool
    pub catalog_is : parts.catalog ≡ found.catalog
    pub counts_are : parts.counts ≡ found.counts
    pub partials_are : parts.partials ≡ found.partials
    pub none : AreNone parts.sessions
    pub first : parts.sessions.sequence ≡ 0
    pub numbers : AreNumbers next_stage next_reader parts.sessions
    pub no_view : parts.views.kept ≡ None

  -- one of the two offices is at work in its next epoch; the numbers of stages and readers go on
  pub record Reopened (a b : Durable) (answer : Answer) (old new : StoreParts D N S d n) : Type 0 where
    pub office : Durable
    pub is_one : IsPicked a b office
    pub room : office.epoch < last_sequence
    pub answer_is : answer ≡ ReopenedAnswer (office.epoch + 1)
    pub names : Names
    pub numbers : AreNumbers names.next_stage names.next_reader old.sessions
    pub running : IsRunning new (reopened office) names

  abbrev pub Goes : Durable → Durable → Reply → (old new : StoreParts D N S d n) → Type 0
  Goes a b (Ok answer) old new = Reopened a b answer old new
  Goes a b (Err (Broken rule)) old new = (rule ≡ NumbersSpent) × IsSpent n.digest_of a b new.journal
  Goes a b (Err HaltedReply) old new = ⊥
  Goes a b (Err DiskFault) old new = (new.halted ≡ true) × IsBetween n.digest_of a b new.journal
  Goes a b (Err (Damaged file found)) old new = ⊥
  Goes a b (Err Memory) old new = MayBe n.digest_of new.journal a b

  -- to which of the two the disk came
  abbrev pub GoesTo : Durable → Durable → Reply → (old new : StoreParts D N S d n) → Type 0
  GoesTo a b (Ok answer) old new =
      (r : Reopened a b answer old new) × ComesToOne d n.digest_of old.journal.disk new.journal.disk a b r.office
  GoesTo a b (Err refusal) old new = IsStopped d n.digest_of old.journal.disk new.journal.disk a b

  -- The store reopened. It had one of two offices; a plain refusal leaves it as it was, and any refusal leaves all but the
  -- journal and whether it is halted.
  pub record Reopens (old : StoreParts D N S d n) (reply : Reply) (new : StoreParts D N S d n) : Type 0 where
    pub goes : (a b : Durable) → MayBe n.digest_of old.journal a b → Goes a b reply old new
    pub crash : (a b : Durable) → MayBe n.digest_of old.journal a b → FindsOnly old.journal new.journal (MayLeave n.digest_of a b)
    pub settles : (a b : Durable) → MayBe n.digest_of old.journal a b → GoesTo a b reply old new
    -- no table was written
    pub tables : (a b : Durable) → MayBe n.digest_of old.journal a b
        → FindsNow new.journal (HasTablesFound (d.files old.journal.disk) (uncertain old.journal))
    pub stays : (refusal : Refusal) → reply ≡ Err refusal → new ≡ with_journal old new.journal new.halted
    pub halted_same : IsPlainReply reply → new.halted ≡ old.halted
    pub quiet : IsPlainReply reply → old.journal.halted ≡ false → is_some (told old.journal) ≡ true → Quiet old.journal new.journal
    pub damaged : (file : FileId) (found : Option (List ℕ)) → reply ≡ Err (Damaged file found)
        → IsForeignTo (d.files old.journal.disk) (d.files new.journal.disk) file found
    -- over any disk: at work after Ok, and after a plain refusal if it was before; halted after a fault of the disk, or a file that isn't
    -- the store's; and no other refusal comes
    pub ready : OnOk reply (IsAtWork new)
    pub awake : reply ≡ Err HaltedReply → ⊥
    pub works : IsPlainReply reply → StaysAtWork old new
    pub stops : IsStoppingReply reply → new.halted ≡ true
    -- over any disk that tells its files
    pub whole : OnOk reply (HasAllOf new)
    pub buckets : OnOk reply (HasBuckets new)
    pub listed : OnOk reply (AreThePoolFiles (d.files old.journal.disk) (slots_of new.pool.names))
    pub spent : (rule : BrokenRule) → reply ≡ Err (Broken rule)
        → (rule ≡ NumbersSpent) × ((all : Files) → told new.journal ≡ Some all → IsLast all)
    pub in_kind : IfOk reply (IsAnswerTo Reopen)
    pub counted : Counted (d.fault_count old.journal.disk) (d.fault_count new.journal.disk) (reply ≡ Err DiskFault)
