-- The fill rule by the remainder is that by what divides.
use Rattle.std.proofs.Common.{◌≡◌, ℕ, ◌/◌, ◌%◌, ◌<◌, inl, inr, nat_eq, true, ap, ◌∙◌, ◌↔◌, arith, eq-eqb}
use Rattle.std.specs.Prelude.{IsTrue}
use Rattle.std.proofs.lemmas.Bool.{eqb-true}
use Rattle.std.proofs.Math.Nat.{mul-mod_left}
use Rattle.backup_rules.specs.declared.lines.Kind.{Kind}
use Rattle.backup_rules.specs.Fill.{IsLeftFilled}

pub filled_under : (cycle number : ℕ) (kind : Kind) → 0 < cycle → (IsTrue (nat_eq (number % cycle) 0)) ↔ IsLeftFilled cycle kind number
filled_under cycle number kind some = (to, from)
  where
    to : nat_eq (number % cycle) 0 ≡ true → IsLeftFilled cycle kind number
    to e = let none : number % cycle ≡ 0 = eqb-true _ _ e in inr (some, (number / cycle, omega arith))

    from : IsLeftFilled cycle kind number → nat_eq (number % cycle) 0 ≡ true
    from (inl none) = absurd (omega arith)
    from (inr by) = eq-eqb (number % cycle) 0 (ap (λ n. n % cycle) by.1.1 ∙ mul-mod_left by.1.0 cycle)
