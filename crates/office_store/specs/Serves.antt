-- What an event of a store promises, whatever state the store was in.
--     is_reopen event      whether it is a reopening
--     MayRecover digest_of state event found      what an opening finds after a crash during it
--     is_stopped parts      whether they answer Halted
--     MayStop event reply      what may halt a store at work
--     Serves old event reply new      it was answered by a step, and a crash meanwhile left no more than that
use Rattle.std.specs.Prelude.{⊤, ◌≡◌, ◌⊎◌, ◌||◌, ℕ, Bool, true, false, List, Err, IfOk}
use Rattle.fault_counts.specs.Counts.{Counted}
use Rattle.disk_trait.specs.declared.disk.Disk.{Ghosts as DiskGhosts}
use Rattle.disk_trait.specs.Files.{Files}
use Rattle.pool_name.specs.declared.namer.Namer.{Ghosts as NamerGhosts}
use Rattle.journal_view.specs.View.{FindsOnly}
use Rattle.office_model.specs.declared.event.Event.{Event}
use Rattle.office_model.specs.declared.event.Event.TheVariants.{Reopen}
use Rattle.office_model.specs.declared.refusal.Refusal.TheVariants.{Halted as HaltedReply, DiskFault, Damaged}
use Rattle.office_model.specs.Meaning.{Reply}
use Rattle.office_model.specs.Step.{State, Running, Halted, IsAnswerTo, meaning_of}
use Rattle.store_parts.specs.declared.parts.StoreParts.{StoreParts}
use Rattle.store_parts.specs.Held.{IsEither}
use Rattle.store_parts.specs.States.{InState}
use Rattle.store_parts.specs.Runs.{Steps, MayRecover as MayRecoverOf}
use Rattle.store_opening.specs.Begins.{MayLeave}
use Rattle.store_opening.specs.Reopens.{first_of, second_of, Reopens}
use Rattle.office_store.specs.declared.store.Store.{Store}
use Rattle.office_store.specs.Damage.{TellsDamage, LeavesTold}

abbrev pub is_reopen : Event → Bool
is_reopen Reopen = true
is_reopen event = false

-- A reopening leaves one of the state's two offices, or one of them in its next epoch; any other event of an office at work
-- what is durable of it before or after, as judged or, where contents may join or leave the pool, but for the ids; of a halted one its two
-- offices.
abbrev pub LeftBy : (List ℕ → List ℕ) → Bool → State → Event → Files → Type 0
LeftBy digest_of true state event found = MayLeave digest_of (first_of state) (second_of state) found
LeftBy digest_of false (Running office names) event found =
    MayRecoverOf digest_of (meaning_of event).pools names office ((meaning_of event).carried office names) found
LeftBy digest_of false (Halted a b names) event found = IsEither digest_of a b found

abbrev pub MayRecover : (List ℕ → List ℕ) → State → Event → Files → Type 0
MayRecover digest_of state event found = LeftBy digest_of (is_reopen event) state event found

-- a fault of the disk; of a reopening also a file that isn't the store's
abbrev pub MayStop : Event → Reply → Type 0
MayStop event (Err DiskFault) = ⊤
MayStop event (Err (Damaged file found)) = event ≡ Reopen
MayStop event reply = ⊥

module _ {D N S : Type 0} {d : DiskGhosts D} {n : NamerGhosts N S} where
  -- a commit or an opening failed since the last opening
  abbrev pub is_stopped : StoreParts D N S d n → Bool
  is_stopped parts = parts.halted || parts.journal.halted

  -- The store answered an event: from each state that it was in by a step to a state that it is in; and a crash meanwhile leaves
  -- what an opening finds to be an office of that step. Over any disk an answer is of the event's kind, and says of the files that were
  -- called for whether they are damaged; if one was, the files are as they were, but for a reopening and the put of a stage. A store that is halted after the event was so before, or the disk failed in it, or a reopening
  -- found a file that isn't the store's; one that was halted answers so to all but a reopening, and no other does; and then nothing
  -- is done. Of a reopening its own promise holds, too: from the first sync that succeeded on a crash leaves one of the two offices
  -- alone, and after Ok the used names are those of the disk's Pool files.
  pub record Serves (old : Store D N S d n) (event : Event) (reply : Reply) (new : Store D N S d n) : Type 0 where
    pub steps : (state : State) → InState old.parts state → Steps state event reply new.parts
    pub crash : (state : State) → InState old.parts state
        → FindsOnly old.parts.journal new.parts.journal (MayRecover n.digest_of state event)
    pub in_kind : IfOk reply (IsAnswerTo event)
    pub damaged : TellsDamage old.parts event reply new.parts
    pub untouched : LeavesTold old.parts event reply new.parts
    pub halts : is_stopped new.parts ≡ true → (is_stopped old.parts ≡ true) ⊎ MayStop event reply
    pub awake : reply ≡ Err HaltedReply → (is_stopped old.parts ≡ true) × (new ≡ old)
    pub stuck : is_stopped old.parts ≡ true → (event ≡ Reopen) ⊎ (reply ≡ Err HaltedReply)
    pub reopens : event ≡ Reopen → Reopens old.parts reply new.parts
    pub counted : Counted (d.fault_count old.parts.journal.disk) (d.fault_count new.parts.journal.disk) (reply ≡ Err DiskFault)
