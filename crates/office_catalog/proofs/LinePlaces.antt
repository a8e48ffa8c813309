-- Where the line of a number stands, and lines with their last one filled or one kept.
use Rattle.std.proofs.Common.{◌≡◌, ◌⊎◌, inl, inr, ℕ, zero, suc, ◌+◌, ◌-◌, ◌<◌, ◌≤◌, ◌==◌, ltb, Bool, true, false, cond, List, [], ◌∷◌, ◌++◌, length, get_or, Some, None, refl, sym, ap, subst, ◌∙◌, arith}
use Rattle.std.specs.Prelude.{slice_set}
use Rattle.std.specs.List.{position_from, HoldsAt}
use Rattle.std.specs.List.Sorted.{IsNonDecreasingBy, IsPartitionPoint}
use Rattle.std.specs.Ordering.{nat_cmp, ordering_index}
use Rattle.std.specs.Cmp.{ranked}
use Rattle.std.specs.declared.cmp.Ordering.TheVariants.{Less, Equal, Greater}
use Rattle.std.proofs.lemmas.Bool.{eq-eqb, ne_eqb, false≢true, ltb-true, ltb-false}
use Rattle.std.proofs.lemmas.Bool.Decides.{nat_tests}
use Rattle.backup_rules.specs.declared.lines.Line.{Line}
use Rattle.backup_index.specs.Lines.{Follows, is_none, LinesFrom, IsSound}
use Rattle.office_catalog.specs.Known.{line_numbered, given_filled, given_keep, last_filled, kept_at}

-- ---- numbers that rise

low_bound : (low next : ℕ) (lines : List Line) (i : ℕ) (d : Line) → LinesFrom low next lines → i < length lines → low ≤ (get_or lines i d).number
low_bound low next [] i d from within = absurd (omega arith)
low_bound low next (line ∷ lines) zero d from within = from.0.rising
low_bound low next (line ∷ lines) (suc i) d from within =
    let first : low ≤ line.number = from.0.rising in
    let rest = low_bound (line.number + 1) next lines i d from.1 (omega arith) in
    omega (arith, first, rest)

rising : (low next : ℕ) (lines : List Line) (i j : ℕ) (d : Line) → LinesFrom low next lines → i ≤ j → j < length lines → (get_or lines i d).number ≤ (get_or lines j d).number
rising low next [] i j d from le within = absurd (omega arith)
rising low next (line ∷ lines) zero zero d from le within = omega arith
rising low next (line ∷ lines) zero (suc j) d from le within = let rest = low_bound (line.number + 1) next lines j d from.1 (omega arith) in omega (arith, rest)
rising low next (line ∷ lines) (suc i) zero d from le within = absurd (omega arith)
rising low next (line ∷ lines) (suc i) (suc j) d from le within = rising (line.number + 1) next lines i j d from.1 (omega arith) (omega arith)

higher : (a b n : ℕ) → a ≤ b → ordering_index (nat_cmp a n) ≤ ordering_index (nat_cmp b n)
higher a b n le = grind (arith, nat_tests)

-- ---- the place of a number

place_at : (low next n k : ℕ) (lines : List Line) (i : ℕ) (d : Line) → LinesFrom low next lines → i < length lines → (get_or lines i d).number ≡ n
    → position_from (λ (line : Line). line.number == n) k lines ≡ Some (k + i)
place_at low next n k [] i d from within is = absurd (omega arith)
place_at low next n k (line ∷ lines) zero d from within is =
    ap (λ (b : Bool). cond b (Some k) (position_from (λ (line : Line). line.number == n) (k + 1) lines)) (eq-eqb line.number n is) ∙ ap Some (omega arith)
place_at low next n k (line ∷ lines) (suc i) d from within is =
    let above = low_bound (line.number + 1) next lines i d from.1 (omega arith) in
    ap (λ (b : Bool). cond b (Some k) (position_from (λ (line : Line). line.number == n) (k + 1) lines)) (ne_eqb line.number n (λ e. omega (arith, e, above, is)))
    ∙ place_at (line.number + 1) next n (k + 1) lines i d from.1 (omega arith) is ∙ ap Some (omega arith)

place_none : (n k : ℕ) (lines : List Line) → ((i : ℕ) (d : Line) → i < length lines → (get_or lines i d).number ≡ n → ⊥) → position_from (λ (line : Line). line.number == n) k lines ≡ None
place_none n k [] none = refl
place_none n k (line ∷ lines) none =
    ap (λ (b : Bool). cond b (Some k) (position_from (λ (line : Line). line.number == n) (k + 1) lines)) (ne_eqb line.number n (λ e. none 0 line (omega arith) e))
    ∙ place_none n (k + 1) lines (λ i d within is. none (suc i) d (omega arith) is)

-- what a search by halving finds
pub line_found : (next n : ℕ) (lines : List Line) (i : ℕ) → IsSound next lines → i < length lines → HoldsAt (λ (line : Line). nat_cmp line.number n ≡ Equal) lines i → Some i ≡ line_numbered lines n
line_found next n [] i sound within here = absurd (omega arith)
line_found next n (line ∷ lines) i sound within here =
    let is : (get_or (line ∷ lines) i line).number ≡ n = ranked (get_or (line ∷ lines) i line).number n Equal (sym (here line)) in
    sym (place_at 0 next n 0 (line ∷ lines) i line sound.in_turn within is ∙ ap Some (omega arith))

pub line_missing : (next n : ℕ) (lines : List Line) (i : ℕ) → IsSound next lines
    → (IsNonDecreasingBy (λ (line : Line). ordering_index (nat_cmp line.number n)) lines
    → IsPartitionPoint (λ (line : Line). nat_cmp line.number n ≡ Less) (λ (line : Line). nat_cmp line.number n ≡ Greater) lines i)
    → None ≡ line_numbered lines n
line_missing next n lines i sound parted =
    let parts = parted (λ a b d le within. higher (get_or lines a d).number (get_or lines b d).number n (rising 0 next lines a b d sound.in_turn le within)) in
    sym (place_none n 0 lines (λ k d within is. apart k d within is (k_side k) parts))
  where
    apart : (k : ℕ) (d : Line) → k < length lines → (get_or lines k d).number ≡ n → (k < i) ⊎ (i ≤ k)
        → IsPartitionPoint (λ (line : Line). nat_cmp line.number n ≡ Less) (λ (line : Line). nat_cmp line.number n ≡ Greater) lines i → ⊥
    apart k d within is (inl below) parts = let lt : (get_or lines k d).number < n = ranked (get_or lines k d).number n Less (sym (parts.0 k d (omega arith) below)) in omega (arith, lt, is)
    apart k d within is (inr above) parts = let lt : n < (get_or lines k d).number = ranked (get_or lines k d).number n Greater (sym (parts.1 k d above within)) in omega (arith, lt, is)

    side : (k : ℕ) (b : Bool) → ltb k i ≡ b → (k < i) ⊎ (i ≤ k)
    side k true e = inl (ltb-true k i e)
    side k false e = inr (ltb-false k i e)

    k_side : (k : ℕ) → (k < i) ⊎ (i ≤ k)
    k_side k = side k (ltb k i) refl

-- ---- lines with one changed

pub last_set : (lines : List Line) (n : ℕ) (filled : Bool) (d : Line) → length lines ≡ n + 1 → slice_set lines n (given_filled filled (get_or lines n d)) ≡ last_filled filled lines
last_set [] n filled d count = absurd (omega (arith, count))
last_set (line ∷ []) zero filled d count = refl
last_set (line ∷ []) (suc n) filled d count = absurd (omega (arith, count))
last_set (line ∷ other ∷ lines) zero filled d count = absurd (omega (arith, count))
last_set (line ∷ other ∷ lines) (suc n) filled d count = ap (λ (l : List Line). line ∷ l) (last_set (other ∷ lines) n filled d (omega (arith, count)))

pub kept_set : (lines : List Line) (index : ℕ) (keep : Bool) (d : Line) → index < length lines → slice_set lines index (given_keep keep (get_or lines index d)) ≡ kept_at keep index lines
kept_set [] index keep d within = absurd (omega arith)
kept_set (line ∷ lines) zero keep d within = refl
kept_set (line ∷ lines) (suc index) keep d within = ap (λ (l : List Line). line ∷ l) (kept_set lines index keep d (omega arith))

-- as the code finds the line
pub last_is : (lines slice : List Line) (len : ℕ) (filled : Bool) (d : Line) → slice ≡ lines → len ≡ length lines → (len ≡ 0 → ⊥) → slice_set lines (len - 1) (given_filled filled (get_or slice (len - 1) d)) ≡ last_filled filled lines
last_is lines slice len filled d same count some =
    ap (λ (l : List Line). slice_set lines (len - 1) (given_filled filled (get_or l (len - 1) d))) same ∙ last_set lines (len - 1) filled d (omega (arith, count, some))

pub kept_is : (lines slice : List Line) (index : ℕ) (keep : Bool) (d : Line) → slice ≡ lines → index < length lines → slice_set lines index (given_keep keep (get_or slice index d)) ≡ kept_at keep index lines
kept_is lines slice index keep d same within = ap (λ (l : List Line). slice_set lines index (given_keep keep (get_or l index d))) same ∙ kept_set lines index keep d within

-- ---- lines that stay sound

kept_end : (keep : Bool) (index : ℕ) (lines : List Line) → is_none (kept_at keep index lines) ≡ is_none lines
kept_end keep index [] = refl
kept_end keep zero (line ∷ lines) = refl
kept_end keep (suc index) (line ∷ lines) = refl

kept_from : (low next : ℕ) (keep : Bool) (index : ℕ) (lines : List Line) → LinesFrom low next lines → LinesFrom low next (kept_at keep index lines)
kept_from low next keep index [] from = tt
kept_from low next keep zero (line ∷ lines) from = (record { rising = from.0.rising; below = from.0.below; filled = from.0.filled }, from.1)
kept_from low next keep (suc index) (line ∷ lines) from =
    (subst (λ (b : Bool). Follows low next b line) (sym (kept_end keep index lines)) from.0, kept_from (line.number + 1) next keep index lines from.1)

pub kept_sound : (next : ℕ) (keep : Bool) (index : ℕ) (lines : List Line) → IsSound next lines → IsSound next (kept_at keep index lines)
kept_sound next keep index lines sound = record { bound = sound.bound; in_turn = kept_from 0 next keep index lines sound.in_turn }

some_behind : (lines : List Line) (line : Line) → is_none (lines ++ line ∷ []) ≡ false
some_behind [] line = refl
some_behind (other ∷ lines) line = refl

-- a line that isn't the last, below a greater number
still_follows : (low next more : ℕ) (is_last : Bool) (line : Line) → next ≤ more → Follows low next is_last line → Follows low more false line
still_follows low next more is_last line above is = record { rising = is.rising; below = let b : line.number < next = is.below in omega arith; filled = λ e. absurd (false≢true e) }

with_last : (low next : ℕ) (filled : Bool) (lines : List Line) (line : Line) → low ≤ next → LinesFrom low next lines → next ≤ line.number → line.filled ≡ true
    → LinesFrom low (line.number + 1) (last_filled filled lines ++ line ∷ [])
with_last low next filled [] line under from above is = (record { rising = omega arith; below = omega arith; filled = λ e. is }, tt)
with_last low next filled (other ∷ []) line under from above is =
    let first : Follows low next true other = from.0 in
    let below : other.number < next = first.below in (
      record { rising = first.rising; below = omega arith; filled = λ e. absurd (false≢true e) },
      (record { rising = omega arith; below = omega arith; filled = λ e. is }, tt),
    )
with_last low next filled (other ∷ third ∷ lines) line under from above is =
    let first : Follows low next false other = from.0 in
    let below : other.number < next = first.below in (
      subst (λ (b : Bool). Follows low (line.number + 1) b other) (sym (some_behind (last_filled filled (third ∷ lines)) line)) (still_follows low next (line.number + 1) false other (omega arith) first),
      with_last (other.number + 1) next filled (third ∷ lines) line (omega arith) from.1 above is,
    )

pub with_line_sound : (next : ℕ) (filled : Bool) (lines : List Line) (line : Line) → line.number < 4294967296 → IsSound next lines → next ≤ line.number → line.filled ≡ true
    → IsSound (line.number + 1) (last_filled filled lines ++ line ∷ [])
with_line_sound next filled lines line small sound above is = record { bound = omega arith; in_turn = with_last 0 next filled lines line (omega arith) sound.in_turn above is }
