-- What becomes of a content of the pool when its bucket is cleaned.
--     fate_of inside protected marked      whether it stays, gains or loses the mark, or leaves
--     mark_after fate marked      its mark afterwards, if it stays in the pool
use Rattle.std.specs.Prelude.{Bool, true, false, Option, Some, None}
use Rattle.pool_fate.specs.declared.fate.Fate.{Fate}
use Rattle.pool_fate.specs.declared.fate.Fate.TheVariants.{Stays, Gains, Loses, Leaves}

-- what becomes of a content that is inside the bucket or not, protected or not, and marked or not
abbrev pub fate_of : (inside protected marked : Bool) → Fate
fate_of false protected marked = Stays
fate_of true true true = Loses
fate_of true true false = Stays
fate_of true false false = Gains
fate_of true false true = Leaves

-- its mark afterwards, if it stays in the pool
abbrev pub mark_after : Fate → Bool → Option Bool
mark_after Stays marked = Some marked
mark_after Gains marked = Some true
mark_after Loses marked = Some false
mark_after Leaves marked = None

abbrev pub is_same_fate : Fate → Fate → Bool
is_same_fate Stays Stays = true
is_same_fate Gains Gains = true
is_same_fate Loses Loses = true
is_same_fate Leaves Leaves = true
is_same_fate a b = false
