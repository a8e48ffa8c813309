-- A folder that tells nothing has no tree.
use Rattle.std.specs.Prelude.{◌≡◌, Some, None}

pub untold : {A B : Type 0} {all : A} → None ≡ Some all → B
untold e = let no : ⊥ = cc (e) in absurd no
