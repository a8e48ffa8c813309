-- A query of escaped pairs is read as these pairs.
use Rattle.std.proofs.Common.{◌≡◌, ℕ, zero, suc, ◌+◌, ◌-◌, ◌<◌, ◌≤◌, ◌/◌, ◌%◌, ◌==◌, nat_lt, nat_eq, cond, Bool, true, false, not, ◌&&◌, ◌||◌, if◌then◌else◌, List, [], ◌∷◌, ◌++◌, map, take, length, Option, Some, None, Ok, All, IsAscii, IsUtf8, encode_utf8_all, refl, ap, ◌∙◌, subst, arith, ◌⊎◌, inl, inr}
use Rattle.std.specs.Cmp.{first_so, second_so}
use Rattle.std.specs.Cmp.Lexicographic.{pointwise}
use Rattle.std.specs.List.{list_any, starts_with}
use Rattle.std.specs.Str.Lossy.{utf8_lossy}
use Rattle.std.proofs.Math.Utf8.{encode, scalar, scalars, scalar_cases, next}
use Rattle.std.proofs.lemmas.Bool.{cond_both, ltb-true}
use Rattle.std.proofs.lemmas.Bool.Decides.{nat_tests}
use Rattle.std.proofs.lemmas.List.Elements.{All-nil, All-cons, All-append}
use Rattle.std.proofs.lemmas.Str.{utf8_lossy-IsUtf8}
use Rattle.percent_encoding.proofs.PercentLemmas.{IsByte}
use Rattle.form_urlencoded.specs.Form.{decode, raw_pairs, extend_pairs}
use Rattle.form_urlencoded.proofs.FormLemmas.{IsBytePair, round_trip}
use Rattle.http_query.specs.declared.keys.QueryRule.{QueryRule}
use Rattle.http_query.specs.declared.keys.QueryRule.TheVariants.{Utf8, Unknown, Repeated, Missing}
use Rattle.http_query.specs.Query.{Pair, KeyRow, text_of, texts_of, query_pairs, replacement, holds_replacement, is_bad_pair, has_repeated, is_known, is_lacking}
use Rattle.request_events.specs.Keys.{refused_for, taken}

-- ---- the bytes of a text

byte-encode : (c : ℕ) → scalar c ≡ true → All IsByte (encode c)
unfolding encode
byte-encode c s =
    cond_both (nat_lt c 128) (c ∷ []) (cond (nat_lt c 2048) ((192 + c / 64) ∷ next c ∷ []) (cond (nat_lt c 65536) ((224 + c / 4096) ∷ next (c / 64) ∷ next c ∷ []) ((240 + c / 262144) ∷ next (c / 4096) ∷ next (c / 64) ∷ next c ∷ []))) (All IsByte)
    (λ low. All-cons IsByte c [] (omega (arith, ltb-true c 128 low)) (All-nil IsByte))
    (λ _. cond_both (nat_lt c 2048) ((192 + c / 64) ∷ next c ∷ []) (cond (nat_lt c 65536) ((224 + c / 4096) ∷ next (c / 64) ∷ next c ∷ []) ((240 + c / 262144) ∷ next (c / 4096) ∷ next (c / 64) ∷ next c ∷ [])) (All IsByte)
    (λ low. All-cons IsByte (192 + c / 64) (next c ∷ []) (omega (arith, ltb-true c 2048 low)) (last c))
    (λ _. cond_both (nat_lt c 65536) ((224 + c / 4096) ∷ next (c / 64) ∷ next c ∷ []) ((240 + c / 262144) ∷ next (c / 4096) ∷ next (c / 64) ∷ next c ∷ []) (All IsByte)
    (λ low. All-cons IsByte (224 + c / 4096) (next (c / 64) ∷ next c ∷ []) (omega (arith, ltb-true c 65536 low)) (two (c / 64) c))
    (λ _. All-cons IsByte (240 + c / 262144) (next (c / 4096) ∷ next (c / 64) ∷ next c ∷ []) (high c (scalar_cases c s))
    (All-cons IsByte (next (c / 4096)) (next (c / 64) ∷ next c ∷ []) (small (c / 4096)) (two (c / 64) c)))))
  where
    small : (n : ℕ) → 128 + n % 64 < 256
    small n = omega arith

    last : (n : ℕ) → All IsByte (next n ∷ [])
    last n = All-cons IsByte (next n) [] (small n) (All-nil IsByte)

    two : (m n : ℕ) → All IsByte (next m ∷ next n ∷ [])
    two m n = All-cons IsByte (next m) (next n ∷ []) (small m) (last n)

    high : (n : ℕ) → (n < 55296) ⊎ ((57344 ≤ n) × (n < 1114112)) → 240 + n / 262144 < 256
    high n (inl h) = omega (arith, h)
    high n (inr h) = omega (arith, h.1)

bytes-encoded : (cs : List ℕ) → scalars cs ≡ true → All IsByte (encode_utf8_all cs)
bytes-encoded [] h = All-nil IsByte
bytes-encoded (c ∷ cs) h =
    All-append IsByte (encode c) (encode_utf8_all cs) (byte-encode c (first_so (scalar c) (scalars cs) h)) (bytes-encoded cs (second_so (scalar c) (scalars cs) h))

utf8-bytes : (text : List ℕ) → IsUtf8 text → All IsByte text
utf8-bytes text u = subst (All IsByte) u.1.1 (bytes-encoded u.0 u.1.0)

-- ---- pairs

-- keys and values are texts without U+FFFD
abbrev pub AreSaid : List Pair → Type 0
AreSaid [] = Unit {0}
AreSaid (pair ∷ pairs) =
    (IsUtf8 pair.0 × (holds_replacement pair.0 ≡ false)) × (IsUtf8 pair.1 × (holds_replacement pair.1 ≡ false)) × AreSaid pairs

are-bytes : (pairs : List Pair) → AreSaid pairs → All IsBytePair pairs
are-bytes [] h = All-nil IsBytePair
are-bytes (pair ∷ pairs) h = All-cons IsBytePair pair pairs (utf8-bytes pair.0 h.0.0, utf8-bytes pair.1 h.1.0) (are-bytes pairs h.2)

decoded : Pair → Pair
decoded (name, value) = (decode name, decode value)

lossy : Pair → Pair
lossy pair = (utf8_lossy pair.0, utf8_lossy pair.1)

twice : (pairs : List Pair) → map texts_of pairs ≡ map lossy (map (λ (name, value). (decode name, decode value)) pairs)
unfolding lossy
twice [] = refl
twice (pair ∷ pairs) = ap (λ (later : List Pair). texts_of pair ∷ later) (twice pairs)

same-texts : (pairs : List Pair) → AreSaid pairs → map lossy pairs ≡ pairs
unfolding lossy
same-texts [] h = refl
same-texts (pair ∷ pairs) h =
    λ i. (utf8_lossy-IsUtf8 pair.0 h.0.0 i, utf8_lossy-IsUtf8 pair.1 h.1.0 i) ∷ same-texts pairs h.2 i

pub pairs-back : (pairs : List Pair) → AreSaid pairs → query_pairs (extend_pairs [] pairs) ≡ pairs
pairs-back pairs h = twice (raw_pairs (extend_pairs [] pairs)) ∙ ap (map lossy) (round_trip pairs (are-bytes pairs h)) ∙ same-texts pairs h

-- ---- rules of queries

none-bad : (pairs : List Pair) → AreSaid pairs → list_any is_bad_pair pairs ≡ false
none-bad [] h = refl
none-bad (pair ∷ pairs) h =
    λ i. (h.0.1 i || h.1.1 i) || none-bad pairs h.2 i

-- the rules behind the first
abbrev pub later_rule : List KeyRow → List Pair → Option QueryRule
later_rule keys pairs =
    if list_any (λ pair. not (is_known keys pair.0)) pairs then Some Unknown
    else if has_repeated pairs then Some Repeated
    else if list_any (is_lacking pairs) keys then Some Missing
    else None

pub taken-is : (keys : List KeyRow) (pairs : List Pair) → AreSaid pairs → later_rule keys pairs ≡ None → taken keys pairs ≡ Ok tt
taken-is keys pairs said e =
    ap (λ b. refused_for (if b then Some Utf8 else later_rule keys pairs)) (none-bad pairs said) ∙ ap refused_for e

-- ---- ASCII holds no U+FFFD

pub ascii-said : (text : List ℕ) → IsAscii text → holds_replacement text ≡ false
ascii-said [] ascii = refl
ascii-said (c ∷ text) ascii =
    step (starts_with nat_eq (c ∷ text) replacement) (holds_replacement text) (first c (take 2 text) (ascii 0)) (ascii-said text (λ i. ascii (suc i)))
  where
    step : (a b : Bool) → a ≡ false → b ≡ false → (a || b) ≡ false
    step a b e f = λ i. e i || f i

    first : (c : ℕ) (rest : List ℕ) → c < 128 → (nat_eq 0xEF c && pointwise nat_eq (0xBF ∷ 0xBD ∷ []) rest) ≡ false
    first c rest h = grind (arith, nat_tests)
