-- Entries with other values at the same keys.
use Rattle.std.specs.Prelude.{List, [], ◌∷◌, Option, Some, None}

-- each value by f
abbrev pub map_values : {K X Y : Type 0} → (X → Y) → List (K × X) → List (K × Y)
map_values f [] = []
map_values f (e ∷ es) = (e.0, f e.1) ∷ map_values f es

-- the value has P, if there is one
abbrev pub IfFound : {X : Type 0} → (X → Type 0) → Option X → Type 0
IfFound P None = Unit {0}
IfFound P (Some x) = P x

-- each value has P
abbrev pub AllValues : {K X : Type 0} → (X → Type 0) → List (K × X) → Type 0
AllValues P [] = Unit {0}
AllValues P (e ∷ es) = P e.1 × AllValues P es
