-- The pieces of texts.
--     first_where_found      the index that a search gives
--     behind_all      nothing stands behind a text
--     weekdays_more, bit_small, bits_more      one weekday more
--     each_done      no piece is left
use Rattle.std.proofs.Common.{◌≡◌, ℕ, ◌+◌, ◌-◌, ◌*◌, ◌%◌, ◌^◌, ◌<◌, ◌≤◌, suc, nat_le, Bool, cond, ltb, List, [], ◌++◌, length, get_or, take, drop, Option, Some, None, unwrap_or, inl, inr, sym, ap, ◌∙◌, arith}
use Rattle.std.specs.List.{position_or_len, after_first}
use Rattle.std.proofs.Math.ListN.{drop_of_length-le}
use Rattle.std.proofs.Math.Nat.{mod-eq_of_lt, pow-suc}
use Rattle.std.proofs.Math.Numerals.{add-one}
use Rattle.std.proofs.Math.Pow.{pow_mono}
use Rattle.std.proofs.Math.Seq.{drop-cons}
use Rattle.std.proofs.lemmas.Bool.{cases_lt, lt-ltb, le-ltb, le-leb, and_from}
use Rattle.std.proofs.lemmas.List.{append-nil, take_rest}
use Rattle.std.proofs.lemmas.List.Sums.{prefix_len-le-length}
use Rattle.backup_rules.specs.Values.{Span}
use Rattle.rule_texts.specs.Periods.{weekdays_from, few_of}

pub first_where_found : (p : ℕ → Bool) (text : List ℕ) (found : Option ℕ)
    → found ≡ cond (ltb (position_or_len p text) (length text)) (Some (position_or_len p text)) None → unwrap_or found (length text) ≡ position_or_len p text
first_where_found p text found is =
    let most : position_or_len p text ≤ length text = prefix_len-le-length _ text in
    elim (cases_lt (position_or_len p text) (length text)) [
      | inl below ↦ ap (λ (o : Option ℕ). unwrap_or o (length text)) (is ∙ ap (λ (b : Bool). cond b (Some (position_or_len p text)) None) (lt-ltb (position_or_len p text) (length text) below))
      | inr above ↦
          ap (λ (o : Option ℕ). unwrap_or o (length text)) (is ∙ ap (λ (b : Bool). cond b (Some (position_or_len p text)) None) (le-ltb (position_or_len p text) (length text) above))
          ∙ omega arith
    ]

pub behind_all : (p : ℕ → Bool) (text : List ℕ) → length text ≤ position_or_len p text → take (length text - length text) (drop (length text) text) ≡ after_first p text
behind_all p text none =
    take_rest text (length text)
    ∙ drop_of_length-le text {i = length text} (omega arith)
    ∙ sym (drop_of_length-le text {i = position_or_len p text + 1} (omega arith))

pub weekdays_more : (bits least : ℕ) (text : List ℕ) (i : ℕ) → i < length text → least ≤ get_or text i 0 → get_or text i 0 ≤ 54
    → weekdays_from bits least (drop i text) ≡ weekdays_from (bits + 2 ^ (get_or text i 0 - 48)) (get_or text i 0 + 1) (drop (i + 1) text)
weekdays_more bits least text i inside low high =
    ap (weekdays_from bits least) (drop-cons text i 0 inside)
    ∙ ap (λ (b : Bool). cond b (weekdays_from (bits + 2 ^ (get_or text i 0 - 48)) (get_or text i 0 + 1) (drop (suc i) text)) None)
    (and_from (nat_le least (get_or text i 0)) (nat_le (get_or text i 0) 54) (le-leb least (get_or text i 0) low) (le-leb (get_or text i 0) 54 high))
    ∙ ap (λ (n : ℕ). weekdays_from (bits + 2 ^ (get_or text i 0 - 48)) (get_or text i 0 + 1) (drop n text)) (sym (add-one i))

-- the bit of a digit fits a byte
pub bit_small : (digit : ℕ) → digit ≤ 54 → 1 * 2 ^ (digit - 48) % 256 ≡ 2 ^ (digit - 48)
bit_small digit high =
    let most : 2 ^ (digit - 48) ≤ 2 ^ 6 = pow_mono {i = digit - 48} {j = 6} (omega arith) in
    let small : 1 * 2 ^ (digit - 48) < 256 = omega (arith, most) in
    mod-eq_of_lt small ∙ omega arith

-- the bits stay below the next weekday
pub bits_more : (bits least digit : ℕ) → bits < 2 ^ (least - 48) → least ≤ digit → 48 ≤ least → bits + 2 ^ (digit - 48) < 2 ^ (digit + 1 - 48)
bits_more bits least digit small low from =
    let wide : 2 ^ (least - 48) ≤ 2 ^ (digit - 48) = pow_mono {i = least - 48} {j = digit - 48} (omega arith) in
    let index : digit + 1 - 48 ≡ suc (digit - 48) = omega arith in
    let twice : 2 ^ (digit + 1 - 48) ≡ 2 ^ (digit - 48) * 2 = ap (λ (n : ℕ). 2 ^ n) index ∙ pow-suc 2 (digit - 48) in
    omega (arith, small, wide, twice)

pub each_done : (found : Option (List Span)) (periods : List Span) → found ≡ Some (periods ++ []) → length periods ≤ 16 → few_of found ≡ Some periods
each_done found periods is few =
    ap few_of (is ∙ ap (λ (l : List Span). Some l) (append-nil periods))
    ∙ ap (λ (b : Bool). cond b (Some periods) None) (le-leb (length periods) 16 few)
