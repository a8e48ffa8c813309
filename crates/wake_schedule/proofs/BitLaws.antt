-- The bits of weekdays.
use Rattle.std.proofs.Common.{◌≡◌, ℕ, ◌<◌, ◌≤◌, ◌/◌, ◌%◌, ◌^◌, ◌==◌, false, sym, ap, arith}
use Rattle.std.proofs.Math.Nat.{div-eq_of_lt}
use Rattle.std.proofs.Math.Pow.{pow_mono}

-- there are but seven
pub no_weekday : (weekdays weekday : ℕ) → weekdays ≤ 127 → 7 ≤ weekday → false ≡ (weekdays / 2 ^ weekday % 2 == 1)
no_weekday weekdays weekday few past =
    let wide : 2 ^ 7 ≤ 2 ^ weekday = pow_mono {i = 7} {j = weekday} past in
    let small : weekdays < 2 ^ weekday = omega (arith, few, wide) in
    sym (ap (λ (n : ℕ). n % 2 == 1) (div-eq_of_lt small))
