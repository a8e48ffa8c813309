-- The distance that the counts ask for, as the rule says it.
--     IsLeast      j is the least number with c0 + .. + cj > m
--     IsGap      the distance is 2^j * C - C/2
use Rattle.std.specs.Prelude.{◌≡◌, ℕ, suc, ◌-◌, ◌*◌, ◌/◌, ◌^◌, ◌<◌, ◌≤◌, List, length, take, sum}

pub record IsLeast (counts : List ℕ) (kept j : ℕ) : Type 0 where
  pub inside : j < length counts
  pub above : kept < sum (take (suc j) counts)
  pub least : (i : ℕ) → i < j → sum (take (suc i) counts) ≤ kept

pub record IsGap (cycle : ℕ) (counts : List ℕ) (kept gap : ℕ) : Type 0 where
  pub j : ℕ
  pub is_least : IsLeast counts kept j
  pub is_gap : gap ≡ 2 ^ j * cycle - cycle / 2
