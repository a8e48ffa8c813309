-- What came of a step over a port. A step is one by the number that a stage gets which is opened.
--     Laid      each call was answered
--     IsRefusedIn      a call was refused, and it was the last
--     Unlaid, Ends      by the fault, and by the result
use Rattle.std.specs.Prelude.{◌≡◌, ℕ, List, [], ◌∷◌, ◌++◌, Option, Some, None, Result, Ok, Err}
use Rattle.office_model.specs.declared.refusal.Refusal.{Refusal}
use Rattle.office_model.specs.Step.{Call}
use Rattle.frame_puts.specs.declared.faults.LayFault.{LayFault}
use Rattle.frame_puts.specs.declared.faults.LayFault.TheVariants.{Refused, Foreign}
use Rattle.frame_puts.specs.declared.laying.Laying.{Laying}
use Rattle.frame_puts.specs.Steps.{Step}

-- the calls of a step lead from the port's state before to that after, and this is pending then
pub record Laid {P : Type 0} (moves : P → List Call → P → Type 0) (old new : P) (steps : ℕ → Option Step) (laying : Laying) : Type 0 where
  pub stage : ℕ
  pub calls : List Call
  pub is_step : steps stage ≡ Some (record { calls = calls; laying = laying })
  pub moved : moves old calls new

-- a call of a step was refused so: those before it were answered, and none was made behind it
pub record IsRefusedIn {P : Type 0} (moves : P → List Call → P → Type 0) (old new : P) (steps : ℕ → Option Step) (refusal : Refusal)
    : Type 0 where
  pub stage : ℕ
  pub step : Step
  pub is_step : steps stage ≡ Some step
  pub done : List Call
  pub call : Call
  pub rest : List Call
  pub calls_are : step.calls ≡ done ++ call ∷ rest
  pub moved : moves old (done ++ (call.0, Err refusal) ∷ []) new

-- nothing was called, and there is no step
abbrev pub IsForeign : {P : Type 0} → P → P → (ℕ → Option Step) → Type 0
IsForeign old new steps = (new ≡ old) × ((stage : ℕ) → steps stage ≡ None)

-- what was called by the fault
abbrev pub Unlaid : {P : Type 0} → (P → List Call → P → Type 0) → P → P → (ℕ → Option Step) → LayFault → Type 0
Unlaid moves old new steps (Refused refusal) = IsRefusedIn moves old new steps refusal
Unlaid moves old new steps Foreign = IsForeign old new steps

-- what was called, and what is pending, by the result
abbrev pub Ends : {P : Type 0} → (P → List Call → P → Type 0) → P → P → (ℕ → Option Step) → Result Laying LayFault → Type 0
Ends moves old new steps (Ok laying) = Laid moves old new steps laying
Ends moves old new steps (Err fault) = Unlaid moves old new steps fault
