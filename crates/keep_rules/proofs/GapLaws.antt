-- The distance that the counts ask for is that of the least number with a sum above what is kept.
use Rattle.std.proofs.Common.{◌≡◌, ℕ, ◌+◌, ◌-◌, ◌*◌, ◌/◌, ◌^◌, ◌<◌, ◌≤◌, zero, suc, List, [], ◌∷◌, length, get_or, take, drop, sum, Some, None, inl, inr, refl, sym, ap, ◌∙◌, arith}
use Rattle.std.proofs.Math.Nat.{pow-suc, mul_assoc, mul_right_comm}
use Rattle.std.proofs.Math.Numerals.{add-one}
use Rattle.std.proofs.Math.Seq.{drop-cons}
use Rattle.std.proofs.lemmas.Bool.{cases_lt, lt-ltb, le-ltb}
use Rattle.std.proofs.lemmas.List.Sums.{sum_by-cons}
use Rattle.keep_rules.specs.Keeping.{gap_from}
use Rattle.keep_rules.specs.Gaps.{IsLeast}
use Rattle.keep_rules.specs.Laws.{GapIsLeast, GapFails}

-- the first counts, one of them more
sum-more : (count : ℕ) (counts : List ℕ) (i : ℕ) → sum (take (suc (suc i)) (count ∷ counts)) ≡ count + sum (take (suc i) counts)
sum-more count counts i = sum_by-cons (λ (n : ℕ). n) count (take (suc i) counts)

sum-one : (count : ℕ) (counts : List ℕ) → sum (take 1 (count ∷ counts)) ≡ count
sum-one count counts = omega (arith, sum_by-cons (λ (n : ℕ). n) count [])

span_more : (span j : ℕ) → 2 ^ j * (span * 2) ≡ 2 ^ suc j * span
span_more span j = sym (mul_assoc (2 ^ j) span 2) ∙ mul_right_comm (2 ^ j) span 2 ∙ ap (λ (n : ℕ). n * span) (sym (pow-suc 2 j))

least_here : (count : ℕ) (counts : List ℕ) (kept : ℕ) → kept < count → IsLeast (count ∷ counts) kept 0
least_here count counts kept below = record {
  inside = omega arith;
  above = omega (arith, sum-one count counts);
  least = λ i below_zero. absurd (omega arith);
}

least_within : (count : ℕ) (counts : List ℕ) (kept j : ℕ) → count ≤ kept → IsLeast counts (kept - count) j
    → (i : ℕ) → i < suc j → sum (take (suc i) (count ∷ counts)) ≤ kept
least_within count counts kept j used is zero below = omega (arith, sum-one count counts)
least_within count counts kept j used is (suc i) below =
    let rest : sum (take (suc i) counts) ≤ kept - count = is.least i (omega arith) in omega (arith, sum-more count counts i)

least_further : (count : ℕ) (counts : List ℕ) (kept j : ℕ) → count ≤ kept → IsLeast counts (kept - count) j → IsLeast (count ∷ counts) kept (suc j)
least_further count counts kept j used is = record {
  inside = omega (arith, is.inside);
  above = omega (arith, is.above, sum-more count counts j);
  least = least_within count counts kept j used is;
}

-- what a least number further on says of the counts behind the first
least_behind : (count : ℕ) (counts : List ℕ) (kept j : ℕ) → IsLeast (count ∷ counts) kept (suc j) → (count ≤ kept) × IsLeast counts (kept - count) j
least_behind count counts kept j is =
    let used : count ≤ kept = omega (arith, is.least 0 (omega arith), sum-one count counts) in (
      used,
      record {
        inside = omega (arith, is.inside);
        above = omega (arith, is.above, sum-more count counts j);
        least = λ i below. omega (arith, is.least (suc i) (omega arith), sum-more count counts i);
      },
    )

few_behind : (count : ℕ) (counts : List ℕ) (kept : ℕ) → count ≤ kept → ((j : ℕ) → j < length counts → sum (take (suc j) counts) ≤ kept - count)
    → (j : ℕ) → j < suc (length counts) → sum (take (suc j) (count ∷ counts)) ≤ kept
few_behind count counts kept used few zero inside = omega (arith, sum-one count counts)
few_behind count counts kept used few (suc j) inside = omega (arith, few j (omega arith), sum-more count counts j)

module _ (half : ℕ) where
  gap_from-below : (span : ℕ) (count : ℕ) (counts : List ℕ) (kept : ℕ) → kept < count → gap_from half span (count ∷ counts) kept ≡ Some (span - half)
  gap_from-below span count counts kept below = rw (lt-ltb kept count below)

  gap_from-above : (span : ℕ) (count : ℕ) (counts : List ℕ) (kept : ℕ) → count ≤ kept
      → gap_from half span (count ∷ counts) kept ≡ gap_from half (span * 2) counts (kept - count)
  gap_from-above span count counts kept used = rw (le-ltb kept count used)

  pub gap_more : (span : ℕ) (counts : List ℕ) (i count kept : ℕ) → i < length counts → count ≡ get_or counts i 0 → count ≤ kept
      → gap_from half span (drop i counts) kept ≡ gap_from half (span * 2) (drop (i + 1) counts) (kept - count)
  gap_more span counts i count kept inside is used =
      ap (λ (l : List ℕ). gap_from half span l kept) (drop-cons counts i 0 inside)
      ∙ gap_from-above span (get_or counts i 0) (drop (suc i) counts) kept (omega (arith, is, used))
      ∙ ap (λ (n : ℕ). gap_from half (span * 2) (drop (suc i) counts) (kept - n)) (sym is)
      ∙ ap (λ (n : ℕ). gap_from half (span * 2) (drop n counts) (kept - count)) (sym (add-one i))

  gap_where_least : (span : ℕ) (counts : List ℕ) (kept j : ℕ) → IsLeast counts kept j → gap_from half span counts kept ≡ Some (2 ^ j * span - half)
  gap_where_least span [] kept j is = absurd (omega (arith, is.inside))
  gap_where_least span (count ∷ counts) kept zero is =
      gap_from-below span count counts kept (omega (arith, is.above, sum-one count counts))
      ∙ ap (λ (n : ℕ). Some (n - half)) (omega arith)
  gap_where_least span (count ∷ counts) kept (suc j) is =
      let behind = least_behind count counts kept j is in
      gap_from-above span count counts kept behind.0
      ∙ gap_where_least (span * 2) counts (kept - count) j behind.1
      ∙ ap (λ (n : ℕ). Some (n - half)) (span_more span j)

  least_where_gap : (span : ℕ) (counts : List ℕ) (kept gap : ℕ) → gap_from half span counts kept ≡ Some gap
      → (j : ℕ) × IsLeast counts kept j × (gap ≡ 2 ^ j * span - half)
  least_where_gap span [] kept gap e = cc
  least_where_gap span (count ∷ counts) kept gap e =
      elim (cases_lt kept count) [
        | inl below ↦
            let found : Some (span - half) ≡ Some gap = sym (gap_from-below span count counts kept below) ∙ e in
            let same : span - half ≡ gap = cc in
            (0, least_here count counts kept below, omega arith)
        | inr used ↦
            let rest = least_where_gap (span * 2) counts (kept - count) gap (sym (gap_from-above span count counts kept used) ∙ e) in (
              suc rest.0,
              least_further count counts kept rest.0 used rest.1,
              rest.2 ∙ ap (λ (n : ℕ). n - half) (span_more span rest.0),
            )
      ]

  none_where_few : (span : ℕ) (counts : List ℕ) (kept : ℕ) → ((j : ℕ) → j < length counts → sum (take (suc j) counts) ≤ kept)
      → gap_from half span counts kept ≡ None
  none_where_few span [] kept few = refl
  none_where_few span (count ∷ counts) kept few =
      let used : count ≤ kept = omega (arith, few 0 (omega arith), sum-one count counts) in
      gap_from-above span count counts kept used
      ∙ none_where_few (span * 2) counts (kept - count) (λ j inside. omega (arith, few (suc j) (omega arith), sum-more count counts j))

  few_where_none : (span : ℕ) (counts : List ℕ) (kept : ℕ) → gap_from half span counts kept ≡ None
      → (j : ℕ) → j < length counts → sum (take (suc j) counts) ≤ kept
  few_where_none span [] kept e j inside = absurd (omega arith)
  few_where_none span (count ∷ counts) kept e j inside =
      elim (cases_lt kept count) [
        | inl below ↦ let bad : Some (span - half) ≡ None = sym (gap_from-below span count counts kept below) ∙ e in cc
        | inr used ↦ few_behind count counts kept used
            (few_where_none (span * 2) counts (kept - count) (sym (gap_from-above span count counts kept used) ∙ e)) j inside
      ]

pub gap_is_least : GapIsLeast
gap_is_least cycle counts kept gap = (
  (λ e. let found = least_where_gap (cycle / 2) cycle counts kept gap e in record { j = found.0; is_least = found.1; is_gap = found.2 }),
  (λ is. gap_where_least (cycle / 2) cycle counts kept is.j is.is_least ∙ ap (λ (n : ℕ). Some n) (sym is.is_gap)),
)

pub gap_fails : GapFails
gap_fails cycle counts kept = (few_where_none (cycle / 2) cycle counts kept, none_where_few (cycle / 2) cycle counts kept)
