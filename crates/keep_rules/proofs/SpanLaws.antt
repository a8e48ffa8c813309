-- Spans and totals, small enough for 64 bits.
--     span_small, span_next      a span that has doubled at most sixteen times, and one doubling more
--     count_at      each of the counts is at most a thousand
--     product_small, total_small, reach_more      one count more
use Rattle.std.proofs.Common.{◌≡◌, ℕ, ◌+◌, ◌*◌, ◌^◌, ◌<◌, ◌≤◌, zero, suc, List, [], ◌∷◌, length, get_or, drop, sym, ap, ◌∙◌, subst, arith}
use Rattle.std.proofs.Math.Nat.{pow-suc, mul_right_comm, mul-le-mul_left, mul-le-mul_right, le_trans}
use Rattle.std.proofs.Math.Numerals.{add-one}
use Rattle.std.proofs.Math.Seq.{drop-cons}
use Rattle.std.specs.List.{AllByRecursion}
use Rattle.std.proofs.Math.Pow.{pow_mono}
use Rattle.backup_rules.specs.Ranges.{IsKeepCount}
use Rattle.keep_rules.specs.Named.{reach}

pub span_small : (i cycle span : ℕ) → i ≤ 16 → span ≡ 2 ^ i * cycle → span ≤ 65536 * cycle
span_small i cycle span few e = subst (λ (n : ℕ). n ≤ 65536 * cycle) (sym e) (mul-le-mul_right cycle (pow_mono {i = i} {j = 16} few))

-- one doubling more
pub span_next : (i cycle span : ℕ) → span ≡ 2 ^ i * cycle → span * 2 ≡ 2 ^ (i + 1) * cycle
span_next i cycle span e =
    ap (λ (n : ℕ). n * 2) e ∙ mul_right_comm (2 ^ i) cycle 2 ∙ ap (λ (n : ℕ). n * cycle) (sym (pow-suc 2 i)) ∙ ap (λ (n : ℕ). 2 ^ n * cycle) (sym (add-one i))

count_within : (counts : List ℕ) (i d : ℕ) → AllByRecursion IsKeepCount counts → i < length counts → get_or counts i d ≤ 1000
count_within [] i d each inside = absurd (omega arith)
count_within (count ∷ counts) zero d each inside = each.0
count_within (count ∷ counts) (suc i) d each inside = count_within counts i d each.1 (omega arith)

pub count_at : (counts : List ℕ) (i count : ℕ) → AllByRecursion IsKeepCount counts → i < length counts → count ≡ get_or counts i 0 → count ≤ 1000
count_at counts i count each inside is = omega (arith, is, count_within counts i 0 each inside)

pub product_small : (count span : ℕ) → count ≤ 1000 → span ≤ 20667432960000 → count * span ≤ 20667432960000000
product_small count span few small = le_trans (mul-le-mul_right span few) (mul-le-mul_left 1000 small)

pub total_small : (total cycle span count : ℕ) → total + 1000 * cycle ≤ 1000 * span → count ≤ 1000 → total + count * span + 1000 * cycle ≤ 1000 * (span * 2)
total_small total cycle span count small few = let more : count * span ≤ 1000 * span = mul-le-mul_right span few in omega arith

-- one count more is added to the total
pub reach_more : (total span : ℕ) (counts : List ℕ) (i count : ℕ) → i < length counts → count ≡ get_or counts i 0
    → total + reach span (drop i counts) ≡ total + count * span + reach (span * 2) (drop (i + 1) counts)
reach_more total span counts i count inside is =
    let first : reach span (drop i counts) ≡ get_or counts i 0 * span + reach (span * 2) (drop (suc i) counts) = ap (reach span) (drop-cons counts i 0 inside) in
    let same : get_or counts i 0 * span ≡ count * span = ap (λ (n : ℕ). n * span) (sym is) in
    let next : reach (span * 2) (drop (suc i) counts) ≡ reach (span * 2) (drop (i + 1) counts) = ap (λ (n : ℕ). reach (span * 2) (drop n counts)) (sym (add-one i)) in
    omega (arith, first, same, next)
