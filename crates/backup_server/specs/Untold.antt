-- A disk that tells nothing has no images.
use Rattle.std.specs.Prelude.{◌≡◌, Option, Some, None}

pub untold : {A B : Type 0} {all : A} → None ≡ Some all → B
untold e = let no : ⊥ = cc (e) in absurd no
