-- From what the parts of a store do to what the store promises.
use Rattle.std.specs.Prelude.{◌||◌, ◌⊎◌}
use Rattle.std.proofs.Common.{◌≡◌, ℕ, Bool, false, true, List, Option, None, Some, Ok, Err, refl, sym, ap, ◌∙◌, subst, inl, inr}
use Rattle.std.proofs.lemmas.Bool.{false≢true, or_parts}
use Rattle.disk_trait.specs.declared.disk.Disk.{Ghosts as DiskGhosts}
use Rattle.pool_name.specs.declared.namer.Namer.{Ghosts as NamerGhosts}
use Rattle.intent_journal.specs.ChangesLaws.{either}
use Rattle.journal_view.specs.View.{told, FindsOnly}
use Rattle.journal_view.specs.ViewLaws.{FindsOnly-still}
use Rattle.office_model.specs.declared.event.Event.{Event}
use Rattle.office_model.specs.declared.event.Event.TheVariants.{Put, Reopen}
use Rattle.office_model.specs.declared.event.PutItem.{PutItem}
use Rattle.office_model.specs.declared.event.PutItem.TheVariants.{Whole, Staged}
use Rattle.attr_records.specs.declared.nodes.Item.{Item}
use Rattle.attr_records.specs.Items.{content_of}
use Rattle.office_model.specs.events.Put as PutEvent
use Rattle.office_model.specs.declared.refusal.Refusal.TheVariants.{Broken, Halted as HaltedReply, DiskFault, Damaged, Memory}
use Rattle.office_model.specs.Meaning.{Reply}
use Rattle.office_model.specs.Office.{Office, Durable, Names}
use Rattle.office_model.specs.Step.{State, Running, Halted, IsHaltedReply, IsStep, meaning_of}
use Rattle.office_model.specs.UsedNames.{AreHaltedNamesAfter}
use Rattle.office_model.specs.events.Put.{change_of}
use Rattle.store_parts.specs.declared.parts.StoreParts.{StoreParts}
use Rattle.store_parts.specs.States.{IsRunning, InState}
use Rattle.store_parts.specs.Runs.{Steps, IsAtWork, StaysAtWork, Runs}
use Rattle.store_parts.specs.RunLaws.{counted_still}
use Rattle.store_opening.specs.Begins.{MayLeave}
use Rattle.store_opening.specs.Reopens.{Reopens, first_of, second_of}
use Rattle.office_store.specs.declared.store.Store.{Store}
use Rattle.office_store.specs.Damage.{IsThere, SaysOfFiles, TellsDamage, WritesNoFile}
use Rattle.office_store.specs.Serves.{is_reopen, LeftBy, MayRecover, MayStop, is_stopped, Serves}

-- ---- whether an event is a reopening

reopening : (event : Event) → is_reopen event ≡ true → event ≡ Reopen
reopening Reopen e = refl
reopening event e = absurd (false≢true e)

pub no_reopening : (event : Event) (asked : Bool) → asked ≡ is_reopen event → asked ≡ false → event ≡ Reopen → ⊥
no_reopening event asked is no_one e = false≢true (sym no_one ∙ is ∙ ap is_reopen e)

-- the names stay, whatever a put holds
whole_stays : (a b : Durable) (names : Names) (content : Option (List ℕ))
    → IsHaltedReply a b (PutEvent.name_change content) (Err HaltedReply) (Halted a b names)
    × AreHaltedNamesAfter names (PutEvent.name_change content) (Err HaltedReply) names
whole_stays a b names None = ((refl, refl, refl), refl)
whole_stays a b names (Some content) = ((refl, refl, refl), refl)

put_stays : (a b : Durable) (names : Names) (item : PutItem)
    → IsHaltedReply a b (change_of item) (Err HaltedReply) (Halted a b names)
    × AreHaltedNamesAfter names (change_of item) (Err HaltedReply) names
put_stays a b names (Whole item) = whole_stays a b names (content_of item)
put_stays a b names (Staged file) = ((refl, refl, refl), refl)

-- what halted a store at work
may_stop : (event : Event) (reply : Reply) → ((reply ≡ Err DiskFault → ⊥) → ⊥) → MayStop event reply
may_stop event (Ok answer) never = absurd (never (λ e. absurd cc))
may_stop event (Err (Broken rule)) never = absurd (never (λ e. absurd cc))
may_stop event (Err HaltedReply) never = absurd (never (λ e. absurd cc))
may_stop event (Err DiskFault) never = tt
may_stop event (Err (Damaged file found)) never = absurd (never (λ e. absurd cc))
may_stop event (Err Memory) never = absurd (never (λ e. absurd cc))

-- a halted office stays, and answers Halted
stays_halted : (a b : Durable) (names : Names) (event : Event) → is_reopen event ≡ false
    → IsStep (Halted a b names) event (Err HaltedReply) (Halted a b names)
stays_halted a b names Reopen other = absurd (false≢true (sym other))
stays_halted a b names (Put session path item token) other = put_stays a b names item
stays_halted a b names event other = ((refl, refl, refl), refl)

module _ {D N S : Type 0} {d : DiskGhosts D} {n : NamerGhosts N S} where
  -- what an answer says of the files, whatever it is
  tells : (old : StoreParts D N S d n) (event : Event) (reply : Reply) (new : StoreParts D N S d n) → IsThere old event reply
      → SaysOfFiles old event reply new → TellsDamage old event reply new
  tells old event (Ok answer) new there says = (there, says)
  tells old event (Err (Broken rule)) new there says = (there, says)
  tells old event (Err HaltedReply) new there says = tt
  tells old event (Err DiskFault) new there says = (there, says)
  tells old event (Err (Damaged file found)) new there says = (there, says)
  tells old event (Err Memory) new there says = (there, says)

  reopening_tells : (old : StoreParts D N S d n) (reply : Reply) (new : StoreParts D N S d n) → Reopens old reply new
      → TellsDamage old Reopen reply new
  reopening_tells old (Ok answer) new reopens = (tt, reopens.whole)
  reopening_tells old (Err (Broken rule)) new reopens = (tt, tt)
  reopening_tells old (Err HaltedReply) new reopens = tt
  reopening_tells old (Err DiskFault) new reopens = (tt, tt)
  reopening_tells old (Err (Damaged file found)) new reopens = (tt, reopens.damaged file found refl)
  reopening_tells old (Err Memory) new reopens = (tt, tt)

  -- ---- over any disk

  still_works : (old new : StoreParts D N S d n) → StaysAtWork old new → is_stopped old ≡ false → is_stopped new ≡ false
  still_works old new stays work =
      let parts = or_parts old.halted old.journal.halted work in (λ i. stays.parts parts.0 i || stays.journal parts.1 i)

  plain_halts : (old new : StoreParts D N S d n) (reply : Reply) → StaysAtWork old new → is_stopped new ≡ true
      → (is_stopped old ≡ true) ⊎ MayStop Reopen reply
  plain_halts old new reply stays stopped = elim (either (is_stopped old)) [
    | inl was ↦ inl was
    | inr work ↦ absurd (false≢true (sym (still_works old new stays work) ∙ stopped))
  ]

  reopening_halts : (old : StoreParts D N S d n) (reply : Reply) (new : StoreParts D N S d n) → Reopens old reply new
      → is_stopped new ≡ true → (is_stopped old ≡ true) ⊎ MayStop Reopen reply
  reopening_halts old (Ok answer) new reopens stopped =
      let at : IsAtWork new = reopens.ready in absurd (false≢true (sym (λ i. at.ready i || at.journal_ready i) ∙ stopped))
  reopening_halts old (Err (Broken rule)) new reopens stopped = plain_halts old new (Err (Broken rule)) (reopens.works tt) stopped
  reopening_halts old (Err HaltedReply) new reopens stopped = absurd (reopens.awake refl)
  reopening_halts old (Err DiskFault) new reopens stopped = inr tt
  reopening_halts old (Err (Damaged file found)) new reopens stopped = inr refl
  reopening_halts old (Err Memory) new reopens stopped = plain_halts old new (Err Memory) (reopens.works tt) stopped

  -- an event of a store at work
  module _ (old new : Store D N S d n) (event : Event) (reply : Reply) (work : is_stopped old.parts ≡ false)
      (runs : Runs old.parts event reply new.parts) (there : IsThere old.parts event reply)
      (says : SaysOfFiles old.parts event reply new.parts)
      (quiet : WritesNoFile event → told new.parts.journal ≡ told old.parts.journal) where
    ready : old.parts.halted ≡ false
    ready = (or_parts old.parts.halted old.parts.journal.halted work).0

    event_steps : (state : State) → InState old.parts state → Steps state event reply new.parts
    event_steps (Running office names) at = runs.steps office names at
    event_steps (Halted a b names) at = absurd (false≢true (sym ready ∙ at.stuck))

    event_left : (state : State) → InState old.parts state
        → FindsOnly old.parts.journal new.parts.journal (LeftBy n.digest_of false state event)
    event_left (Running office names) at = runs.crash office names at
    event_left (Halted a b names) at = absurd (false≢true (sym ready ∙ at.stuck))

    pub serves_event : is_reopen event ≡ false → Serves old event reply new
    serves_event other = record {
      steps = event_steps;
      crash = λ state at.
          subst (λ (r : Bool). FindsOnly old.parts.journal new.parts.journal (LeftBy n.digest_of r state event)) (sym other)
          (event_left state at);
      in_kind = runs.in_kind;
      damaged = tells old.parts event reply new.parts there says;
      untouched = record { still = quiet; undone = λ other none damage. runs.untouched none damage };
      halts = λ stopped.
          inr (may_stop event reply (λ fine. false≢true (sym (still_works old.parts new.parts (runs.halts fine) work) ∙ stopped)));
      awake = λ e. absurd (runs.awake e);
      stuck = λ was. absurd (false≢true (sym work ∙ was));
      reopens = λ is. absurd (false≢true (sym other ∙ ap is_reopen is));
      counted = runs.counted;
    }

  -- a store that is halted, or whose journal is
  module _ (old : Store D N S d n) (event : Event) (other : is_reopen event ≡ false)
      (stuck : (old.parts.halted || old.parts.journal.halted) ≡ true) where
    not_running : (office : Office) (names : Names) → IsRunning old.parts office names → ⊥
    not_running office names at = false≢true (sym at_work ∙ stuck)
      where
        at_work : (old.parts.halted || old.parts.journal.halted) ≡ false
        at_work = (λ i. at.ready i || at.journal_ready i)

    halted_steps : (state : State) → InState old.parts state → Steps state event (Err HaltedReply) old.parts
    halted_steps (Running office names) at = absurd (not_running office names at)
    halted_steps (Halted a b names) at =
        record { next = Halted a b names; step = stays_halted a b names event other; undamaged = tt; in_state = at }

    pub serves_halted : Serves old event (Err HaltedReply) old
    serves_halted = record {
      steps = halted_steps;
      crash = λ state at. FindsOnly-still old.parts.journal (MayRecover n.digest_of state event);
      in_kind = tt;
      damaged = tt;
      untouched = record { still = λ still. refl; undone = λ other none damage. refl };
      halts = λ stopped. inl stuck;
      awake = λ e. (stuck, refl);
      stuck = λ was. inr refl;
      reopens = λ is. absurd (false≢true (sym other ∙ ap is_reopen is));
      counted = counted_still (d.fault_count old.parts.journal.disk) (Err HaltedReply ≡ Err DiskFault) (λ e. absurd cc);
    }

  -- a reopening
  pub serves_reopen : (old new : Store D N S d n) (event : Event) (reply : Reply) (asked : Bool) → asked ≡ is_reopen event → asked ≡ true
      → ((state : State) → InState old.parts state → Steps state Reopen reply new.parts)
      → ((state : State) → InState old.parts state
      → FindsOnly old.parts.journal new.parts.journal (MayLeave n.digest_of (first_of state) (second_of state)))
      → Reopens old.parts reply new.parts → Serves old event reply new
  serves_reopen old new event reply asked is one steps crash reopens =
      subst (λ (e : Event). Serves old e reply new) (sym (reopening event (sym is ∙ one)))
      (record {
        steps = steps;
        crash = crash;
        in_kind = reopens.in_kind;
        damaged = reopening_tells old.parts reply new.parts reopens;
        untouched = record { still = λ still. absurd still; undone = λ other none damage. absurd (other refl) };
        halts = reopening_halts old.parts reply new.parts reopens;
        awake = λ e. absurd (reopens.awake e);
        stuck = λ was. inl refl;
        reopens = λ is. reopens;
        counted = reopens.counted;
      })

  -- the store asked whether it is halted, and went on
  pub answers : (old new : Store D N S d n) (event : Event) (reply : Reply) (asked halted : Bool) → asked ≡ is_reopen event
      → asked ≡ false → halted ≡ (old.parts.halted || old.parts.journal.halted) → halted ≡ false → Runs old.parts event reply new.parts
      → IsThere old.parts event reply → SaysOfFiles old.parts event reply new.parts
      → (WritesNoFile event → told new.parts.journal ≡ told old.parts.journal) → Serves old event reply new
  answers old new event reply asked halted is other stuck at_work runs there says quiet =
      serves_event old new event reply (sym stuck ∙ at_work) runs there says quiet (sym is ∙ other)

  -- or was, and answered so
  pub refuses : (old : Store D N S d n) (event : Event) (asked halted : Bool) → asked ≡ is_reopen event → asked ≡ false
      → halted ≡ (old.parts.halted || old.parts.journal.halted) → halted ≡ true → Serves old event (Err HaltedReply) old
  refuses old event asked halted is other stuck at_rest = serves_halted old event (sym is ∙ other) (sym stuck ∙ at_rest)
