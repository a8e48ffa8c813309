-- Links that are told: those that a door has to give, and those that were given back to it.
use Rattle.std.specs.Prelude.{◌≡◌, List, [], ◌++◌, Option, None, Some}

-- these links, and then those that are told
abbrev pub ahead_of : {L : Type 0} → List L → Option (List L) → Option (List L)
ahead_of links None = None
ahead_of links (Some later) = Some (links ++ later)

-- the links that are told, and then these
abbrev pub with_last : {L : Type 0} → Option (List L) → List L → Option (List L)
with_last None links = None
with_last (Some earlier) links = Some (earlier ++ links)

-- where they are told, there is none
abbrev pub IsEmptied : {L : Type 0} → Option (List L) → Type 0
IsEmptied None = Unit {0}
IsEmptied (Some links) = links ≡ []
