-- What follows from the promise of an event.
--     start_found      what an opening finds before the event, it may find after a crash during it
--     serves_left      what an opening finds in what a crash since its start left;  serves_next      and on a disk that starts from that
use Rattle.std.proofs.Common.{◌≡◌, Bool, true, false, sym, subst, inl, ⊎_elim, arith}
use Rattle.disk_trait.specs.declared.disk.Disk.{Ghosts as DiskGhosts}
use Rattle.disk_trait.specs.Files.{Files}
use Rattle.pool_name.specs.declared.namer.Namer.{Ghosts as NamerGhosts}
use Rattle.intent_journal.specs.declared.journal.Journal.{Journal}
use Rattle.journal_view.specs.Found.{Finds, FindsAll, IsAlikeBut}
use Rattle.journal_view.specs.Chain.{Crashed}
use Rattle.journal_view.specs.ChainLaws.{crash_then}
use Rattle.journal_view.specs.View.{OnlyNow, uncertain, moment, FindsNow, FindsOnly}
use Rattle.journal_view.specs.ViewLaws.{FindsNow-each, working_finds}
use Rattle.office_model.specs.declared.event.Event.{Event}
use Rattle.office_model.specs.Office.{Office, Names}
use Rattle.office_model.specs.Meaning.{Reply}
use Rattle.office_model.specs.Step.{State, Running, Halted, meaning_of}
use Rattle.office_files.specs.Stands.{StandsFor}
use Rattle.store_parts.specs.Held.{IsEither}
use Rattle.store_parts.specs.States.{IsRunning, InState}
use Rattle.store_parts.specs.StoredLaws.{stored_found}
use Rattle.store_parts.specs.StepLaws.{recover_before}
use Rattle.store_opening.specs.Begins.{MayLeave}
use Rattle.store_opening.specs.Reopens.{first_of, second_of}
use Rattle.office_store.specs.declared.store.Store.{Store}
use Rattle.office_store.specs.Serves.{is_reopen, LeftBy, MayRecover, Serves}

module _ {D : Type 0} {d : DiskGhosts D} where
  -- what an opening finds after a crash since the start, if what it finds at the start has P
  pub found_since : (old new : Journal D d) (P : Files → Type 0) → OnlyNow d → FindsNow old P → FindsOnly old new P
      → (image : Files) → d.left_since new.disk (moment old) image → Finds P image
  found_since old new P only start run image left = ⊎_elim
      (λ before. start image (only old.disk image before))
      (λ finds. finds)
      (run.since (moment old) image (omega arith) left)

module _ {D N S : Type 0} {d : DiskGhosts D} {n : NamerGhosts N S} where
  -- what an opening finds of a store at work now is what is durable of its office
  found_running : (old : Store D N S d n) (office : Office) (names : Names) (P : Files → Type 0) → IsRunning old.parts office names
      → ((found : Files) → StandsFor n.digest_of found office.durable → P found) → FindsNow old.parts.journal P
  found_running old office names P at wider =
      FindsNow-each (IsAlikeBut at.all (uncertain old.parts.journal)) P old.parts.journal
      (λ found alike. wider found
      (stored_found old.parts.journal old.parts.pool old.parts.catalog office.durable names at.stored found alike))
      (working_finds old.parts.journal at.all at.journal_ready at.told_is)

  -- of a store in any state it is one of the state's two offices
  pub found_either : (old : Store D N S d n) (state : State) → InState old.parts state
      → FindsNow old.parts.journal (IsEither n.digest_of (first_of state) (second_of state))
  found_either old (Running office names) at =
      found_running old office names (IsEither n.digest_of office.durable office.durable) at (λ found stands. inl stands)
  found_either old (Halted a b names) at = at.may_be.each

  left_at_start : (old : Store D N S d n) (state : State) (event : Event) (reopens : Bool) → InState old.parts state
      → FindsNow old.parts.journal (LeftBy n.digest_of reopens state event)
  left_at_start old state event true at =
      FindsNow-each (IsEither n.digest_of (first_of state) (second_of state)) (MayLeave n.digest_of (first_of state) (second_of state))
      old.parts.journal (λ found is. inl is) (found_either old state at)
  left_at_start old (Running office names) event false at =
      found_running old office names (LeftBy n.digest_of false (Running office names) event) at
      (recover_before n.digest_of (meaning_of event).pools names office ((meaning_of event).carried office names))
  left_at_start old (Halted a b names) event false at = at.may_be.each

  pub start_found : (old : Store D N S d n) (state : State) (event : Event) → InState old.parts state
      → FindsNow old.parts.journal (MayRecover n.digest_of state event)
  start_found old state event at = left_at_start old state event (is_reopen event) at

  module _ (old new : Store D N S d n) (event : Event) (reply : Reply) (serves : Serves old event reply new) (only : OnlyNow d)
      (state : State) (at : InState old.parts state) where
    pub serves_left : (image : Files) → d.left_since new.parts.journal.disk (moment old.parts.journal) image
        → Finds (MayRecover n.digest_of state event) image
    serves_left =
        found_since old.parts.journal new.parts.journal (MayRecover n.digest_of state event) only (start_found old state event at)
        (serves.crash state at)

    pub serves_next : (next : D) → Crashed d old.parts.journal.disk new.parts.journal.disk next
        → FindsAll (d.files next) (d.uncertain next) (MayRecover n.digest_of state event)
    serves_next next crashed =
        crash_then d only (MayRecover n.digest_of state event) old.parts.journal.disk new.parts.journal.disk next crashed.image crashed.all
        (start_found old state event at) (serves.crash state at) crashed.left crashed.told crashed.same crashed.certain
