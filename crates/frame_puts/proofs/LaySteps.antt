-- What came of a step: each call was answered, or one was refused.
--     laid      each was answered
--     refused_at      one was refused behind others
--     ends_as, item_as      of equal steps the same came
use Rattle.std.specs.Prelude.{◌≡◌, ℕ, List, [], ◌∷◌, ◌++◌, Option, Some, Result, Err}
use Rattle.std.proofs.Common.{sym, subst}
use Rattle.attr_records.specs.declared.nodes.Item.{Item}
use Rattle.receipts.specs.declared.session.SessionName.{SessionName}
use Rattle.office_model.specs.declared.refusal.Refusal.{Refusal}
use Rattle.office_model.specs.Step.{Call}
use Rattle.frame_puts.specs.declared.faults.LayFault.{LayFault}
use Rattle.frame_puts.specs.declared.laying.Laying.{Laying}
use Rattle.frame_puts.specs.Steps.{Step, whole_step}
use Rattle.frame_puts.specs.Laid.{Laid, IsRefusedIn, Ends}

module _ {P : Type 0} (moves : P → List Call → P → Type 0) (old new : P) (steps : ℕ → Option Step) where
  pub laid : (stage : ℕ) (step : Step) → steps stage ≡ Some step → moves old step.calls new → Laid moves old new steps step.laying
  laid stage step is moved = record { stage = stage; calls = step.calls; is_step = is; moved = moved }

  pub refused_at : (stage : ℕ) (step : Step) (done : List Call) (call : Call) (rest : List Call) (refusal : Refusal) → steps stage ≡ Some step
      → step.calls ≡ done ++ call ∷ rest → moves old (done ++ (call.0, Err refusal) ∷ []) new → IsRefusedIn moves old new steps refusal
  refused_at stage step done call rest refusal is calls_are moved = record {
    stage = stage;
    step = step;
    is_step = is;
    done = done;
    call = call;
    rest = rest;
    calls_are = calls_are;
    moved = moved;
  }

  pub ends_as : (steps' : ℕ → Option Step) (result : Result Laying LayFault) → ((stage : ℕ) → steps' stage ≡ steps stage)
      → Ends moves old new steps result → Ends moves old new steps' result
  ends_as steps' result same ends = subst (λ (s : ℕ → Option Step). Ends moves old new s result) (λ i stage. sym (same stage) i) ends

-- a put of an equal item
pub item_as : {P : Type 0} (moves : P → List Call → P → Type 0) (old new : P) (dump : SessionName) (path : List ℕ) (item item' : Item)
    (result : Result Laying LayFault) → item ≡ item' → Ends moves old new (λ stage. Some (whole_step dump path item)) result
    → Ends moves old new (λ stage. Some (whole_step dump path item')) result
item_as moves old new dump path item item' result same ends =
    subst (λ it. Ends moves old new (λ stage. Some (whole_step dump path it)) result) same ends
