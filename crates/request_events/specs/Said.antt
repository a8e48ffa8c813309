-- What is said of a request, step by step: each gives something or refuses the request.
use Rattle.std.specs.Prelude.{◌≡◌, Option, Some, None, Result, Ok, Err}
use Rattle.request_events.specs.declared.refusal.RequestRefusal.{RequestRefusal}
use Rattle.request_events.specs.declared.refusal.RequestFault.{RequestFault}
use Rattle.request_events.specs.declared.refusal.RequestFault.TheVariants.{Refused, Memory}

abbrev pub Said : Type 0 → Type 0
Said A = Result A RequestRefusal

-- the next step, where this one gave something
infixl 10 ◌>>=◌
abbrev pub ◌>>=◌ : {A B : Type 0} → Said A → (A → Said B) → Said B
Ok x >>= next = next x
Err refusal >>= next = Err refusal

-- what is there, or this refusal
abbrev pub or_refuse : {A : Type 0} → RequestRefusal → Option A → Said A
or_refuse refusal (Some x) = Ok x
or_refuse refusal None = Err refusal

-- the program gave what is said, or had no memory
abbrev pub Says : {A : Type 0} → Result A RequestFault → Said A → Type 0
Says (Ok x) said = said ≡ Ok x
Says (Err (Refused refusal)) said = said ≡ Err refusal
Says (Err Memory) said = Unit {0}
