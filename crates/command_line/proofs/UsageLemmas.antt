-- What ends in the usage has something before it, or is the usage alone.
use Rattle.std.proofs.Common.{◌≡◌, ◌++◌, ℕ, List, [], Result, Ok, Err, IfOk, ap, ◌∙◌}
use Rattle.command_line.specs.Line.{usage}

pub usage_last : {T E : Type 0} (f : T → List ℕ) (message : List ℕ) (r : Result T E) → IfOk r (λ text. f text ≡ message ++ usage)
    → IfOk r (λ text. (front : List ℕ) × (f text ≡ front ++ usage))
usage_last f message (Ok text) h = (message, h)
usage_last f message (Err e) h = tt

pub usage_alone : {T E : Type 0} (f : T → List ℕ) (message : List ℕ) (r : Result T E) → message ≡ []
    → IfOk r (λ text. f text ≡ message ++ usage) → IfOk r (λ text. f text ≡ usage)
usage_alone f message (Ok text) none h = h ∙ ap (λ (front : List ℕ). front ++ usage) none
usage_alone f message (Err e) none h = tt
