-- Laws of specs/Indexed.
use Rattle.std.specs.Prelude.{◌≡◌, ℕ, List}
use Rattle.disk_trait.specs.declared.ids.PoolId.{PoolId}
use Rattle.pool_changes.specs.declared.slot.Turn.TheVariants.{Add, Mark, Unmark, Remove}
use Rattle.pool_changes.specs.Slots.{Slots}
use Rattle.std.proofs.Common.{subst}
use Rattle.pool_changes.specs.Kept.{IsSame}
use Rattle.pool_changes.specs.Relisted.{relisted, AreAtMost}
use Rattle.pool_changes.specs.RelistedLaws.{same_then, most_relisted, most_same}
use Rattle.pool_changes.specs.Indexed.{relisted_by}

-- the four parts of a change, one after the other
pub four_parts : (added marked unmarked removed a b c d : List PoolId) (s0 s1 s2 s3 s4 : Slots) → a ≡ added → b ≡ marked → c ≡ unmarked → d ≡ removed
    → IsSame (relisted Add a s0) s1 → IsSame (relisted Mark b s1) s2 → IsSame (relisted Unmark c s2) s3 → IsSame (relisted Remove d s3) s4
    → IsSame (relisted_by added marked unmarked removed s0) s4
four_parts added marked unmarked removed a b c d s0 s1 s2 s3 s4 ea eb ec ed first second third fourth =
    same_then Remove removed (relisted Unmark unmarked (relisted Mark marked (relisted Add added s0))) s3 s4
    (same_then Unmark unmarked (relisted Mark marked (relisted Add added s0)) s2 s3
    (same_then Mark marked (relisted Add added s0) s1 s2
    (subst (λ (l : List PoolId). IsSame (relisted Add l s0) s1) ea first)
    (subst (λ (l : List PoolId). IsSame (relisted Mark l s1) s2) eb second))
    (subst (λ (l : List PoolId). IsSame (relisted Unmark l s2) s3) ec third))
    (subst (λ (l : List PoolId). IsSame (relisted Remove l s3) s4) ed fourth)

pub most_after : (added marked unmarked removed : List PoolId) (s0 s4 : Slots) (most : ℕ) → IsSame (relisted_by added marked unmarked removed s0) s4 → AreAtMost most s0 → AreAtMost most s4
most_after added marked unmarked removed s0 s4 most same at =
    most_same (relisted_by added marked unmarked removed s0) s4 most same
    (most_relisted Remove removed _ most (most_relisted Unmark unmarked _ most (most_relisted Mark marked _ most (most_relisted Add added s0 most at))))
