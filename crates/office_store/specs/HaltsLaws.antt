-- Why a store is halted, over any disk, that was at work when the first of some calls was made.
--     halted_since      it is at their end
--     failed_since      one of them was answered so
use Rattle.std.specs.Prelude.{◌≤◌, ◌⊎◌}
use Rattle.std.proofs.Common.{◌≡◌, ℕ, Bool, true, false, List, [], ◌∷◌, Ok, Err, refl, sym, ap, ◌∙◌, subst, inl, inr, arith}
use Rattle.std.proofs.lemmas.Bool.{false≢true}
use Rattle.disk_trait.specs.declared.disk.Disk.{Ghosts as DiskGhosts}
use Rattle.pool_name.specs.declared.namer.Namer.{Ghosts as NamerGhosts}
use Rattle.intent_journal.specs.ChangesLaws.{either}
use Rattle.office_model.specs.declared.event.Event.{Event}
use Rattle.office_model.specs.declared.refusal.Refusal.TheVariants as R
use Rattle.office_model.specs.Meaning.{Reply}
use Rattle.office_model.specs.Step.{Call}
use Rattle.office_store.specs.declared.store.Store.{Store}
use Rattle.office_store.specs.Serves.{is_stopped, MayStop, Serves}
use Rattle.office_store.specs.Moves.{AreServed}
use Rattle.office_store.specs.EndLaws.{rose_before, rose_after}
use Rattle.office_store.specs.Halts.{IsForeignReopening, HasStopCause, HasFailed}

stop_cause : (event : Event) (reply : Reply) → MayStop event reply → (reply ≡ Err R.DiskFault) ⊎ IsForeignReopening (event, reply)
stop_cause event (Ok answer) may = absurd may
stop_cause event (Err (R.Broken rule)) may = absurd may
stop_cause event (Err R.Halted) may = absurd may
stop_cause event (Err R.DiskFault) may = inl refl
stop_cause event (Err (R.Damaged file found)) may =
    inr (record { file = file; found = found; is = λ i. (may i, Err (R.Damaged file found)) })
stop_cause event (Err R.Memory) may = absurd may

module _ {D N S : Type 0} {d : DiskGhosts D} {n : NamerGhosts N S} where
  abbrev pub faults : Store D N S d n → ℕ
  faults store = d.fault_count store.parts.journal.disk

  abbrev pub HasCause : Store D N S d n → List Call → Store D N S d n → Type 0
  HasCause old calls new = HasStopCause (faults old) (faults new) calls

  later_served : (old new : Store D N S d n) (calls : List Call) → AreServed old calls new → faults old ≤ faults new
  later_served old new [] served = subst (λ (s : Store D N S d n). faults old ≤ faults s) (sym served) (omega arith)
  later_served old new ((event, reply) ∷ calls) served =
      let first = served.1.counted.later in
      let rest = later_served served.0 new calls served.2 in omega (arith, first, rest)

  -- a cause in the first call, and in one behind it
  first_cause : (old mid new : Store D N S d n) (event : Event) (reply : Reply) (calls : List Call) → Serves old event reply mid
      → AreServed mid calls new → MayStop event reply → HasCause old ((event, reply) ∷ calls) new
  first_cause old mid new event reply calls serves rest may = elim (stop_cause event reply may) [
    | inl fault ↦
        inl (rose_after (faults old) (faults mid) (faults new) (serves.counted.rose fault) (later_served mid new calls rest))
    | inr foreign ↦ inr (inl foreign)
  ]

  later_cause : (old mid new : Store D N S d n) (event : Event) (reply : Reply) (calls : List Call) → Serves old event reply mid
      → HasCause mid calls new → HasCause old ((event, reply) ∷ calls) new
  later_cause old mid new event reply calls serves cause = elim cause [
    | inl rose ↦ inl (rose_before (faults old) (faults mid) (faults new) serves.counted.later rose)
    | inr foreign ↦ inr (inr foreign)
  ]

  -- the first call halted it, or it was at work behind that
  behind : (old mid new : Store D N S d n) (event : Event) (reply : Reply) (calls : List Call) → Serves old event reply mid
      → AreServed mid calls new → is_stopped old.parts ≡ false → (is_stopped mid.parts ≡ false → HasCause mid calls new)
      → HasCause old ((event, reply) ∷ calls) new
  behind old mid new event reply calls serves rest work then = elim (either (is_stopped mid.parts)) [
    | inl stopped ↦ elim (serves.halts stopped) [
      | inl was ↦ absurd (false≢true (sym work ∙ was))
      | inr may ↦ first_cause old mid new event reply calls serves rest may
    ]
    | inr still ↦ later_cause old mid new event reply calls serves (then still)
  ]

  pub halted_since : (old new : Store D N S d n) (calls : List Call) → AreServed old calls new → is_stopped old.parts ≡ false
      → is_stopped new.parts ≡ true → HasCause old calls new
  halted_since old new [] served work stopped =
      absurd (false≢true (sym work ∙ ap (λ (s : Store D N S d n). is_stopped s.parts) (sym served) ∙ stopped))
  halted_since old new ((event, reply) ∷ calls) served work stopped =
      behind old served.0 new event reply calls served.1 served.2 work
      (λ still. halted_since served.0 new calls served.2 still stopped)

  pub failed_since : (old new : Store D N S d n) (calls : List Call) → AreServed old calls new → is_stopped old.parts ≡ false
      → HasFailed calls → HasCause old calls new
  failed_since old new [] served work failed = absurd failed
  failed_since old new ((event, reply) ∷ calls) served work (inl (inl fault)) =
      inl (rose_after (faults old) (faults served.0) (faults new) (served.1.counted.rose fault) (later_served served.0 new calls served.2))
  failed_since old new ((event, reply) ∷ calls) served work (inl (inr halted)) =
      absurd (false≢true (sym work ∙ (served.1.awake halted).0))
  failed_since old new ((event, reply) ∷ calls) served work (inr failed) =
      behind old served.0 new event reply calls served.1 served.2 work
      (λ still. failed_since served.0 new calls served.2 still failed)
