-- The query that names a base.
use Rattle.std.proofs.Common.{◌≡◌, ℕ, ◌-◌, ◌<◌, ◌^◌, ◌==◌, nat_le, nat_lt, Bool, true, false, not, ◌&&◌, ◌||◌, List, [], ◌∷◌, ◌++◌, length, Some, Ok, option_map, refl, ap, ◌∙◌, arith, codes, decimal, lit<, IsAscii, All, zero, suc, ◌≤◌, map, take, nat_eq, subst, sym}
use Rattle.std.specs.Cmp.Lexicographic.{pointwise}
use Rattle.std.specs.List.{list_all, starts_with}
use Rattle.std.specs.Str.Lossy.{utf8_lossy}
use Rattle.std.specs.Cmp.{first_so, second_so}
use Rattle.std.proofs.lemmas.Bool.Decides.{nat_tests}
use Rattle.std.proofs.lemmas.List.Elements.{All-nil, All-cons}
use Rattle.std.proofs.lemmas.Str.{IsUtf8-from_ascii, utf8_lossy-IsUtf8}
use Rattle.form_urlencoded.specs.Form.{IsPlain, raw_pairs, split_once, split_pair}
use Rattle.form_urlencoded.proofs.FormLemmas.{decode_plain, raw_pairs-nil, raw_pairs_first}
use Rattle.http_query.specs.declared.keys.QueryRule.TheVariants.{Value}
use Rattle.http_query.specs.Query.{Pair, text_of, texts_of, query_pairs, replacement, holds_replacement}
use Rattle.http_query.proofs.ScanLaws.{number_of-decimal}
use Rattle.request_events.specs.declared.refusal.RequestRefusal.TheVariants.{BadQuery}
use Rattle.request_events.specs.Said.{or_refuse}
use Rattle.request_events.specs.Keys.{optional, taken}
use Rattle.request_events.specs.Values.{base_in}
use Rattle.event_texts.proofs.CutLemmas.{NonePass, all-append, cut-before, cut-after, whole-before, whole-after}
use Rattle.event_texts.proofs.NameLemmas.{all_decimal}

-- a byte of 48 to 127: a digit, a letter, and neither `+` nor `%` nor `&`
abbrev is_kept : ℕ → Bool
is_kept byte = nat_le 48 byte && nat_lt byte 128

abbrev ampersand : ℕ → Bool
ampersand byte = byte == 38

abbrev equals : ℕ → Bool
equals byte = byte == 61

-- the query that names a base
abbrev pub base_text : ℕ → List ℕ
base_text base = codes "base=" ++ decimal base

abbrev pub base_pairs : ℕ → List Pair
base_pairs base = (codes "base", decimal base) ∷ []

-- ---- texts that stand for themselves

kept_plain : (c : ℕ) → is_kept c ≡ true → IsPlain c
kept_plain c h = (λ plus. grind (arith, nat_tests), λ percent. grind (arith, nat_tests))

kept_ascii : (c : ℕ) → is_kept c ≡ true → c < 128
kept_ascii c h = grind (arith, nat_tests)

all_plain : (text : List ℕ) → list_all is_kept text ≡ true → All IsPlain text
all_plain [] h = All-nil IsPlain
all_plain (c ∷ text) h = All-cons IsPlain c text (kept_plain c (first_so _ _ h)) (all_plain text (second_so (is_kept c) (list_all is_kept text) h))

all_ascii : (text : List ℕ) → list_all is_kept text ≡ true → IsAscii text
all_ascii [] h i = omega arith
all_ascii (c ∷ text) h zero = kept_ascii c (first_so _ _ h)
all_ascii (c ∷ text) h (suc i) = all_ascii text (second_so (is_kept c) (list_all is_kept text) h) i

text-kept : (text : List ℕ) → list_all is_kept text ≡ true → text_of text ≡ text
text-kept text h = ap utf8_lossy (decode_plain text (all_plain text h)) ∙ utf8_lossy-IsUtf8 text (IsUtf8-from_ascii text (all_ascii text h))

no-replacement : (text : List ℕ) → list_all is_kept text ≡ true → holds_replacement text ≡ false
no-replacement [] h = refl
no-replacement (c ∷ text) h = step (starts_with nat_eq (c ∷ text) replacement) (holds_replacement text) (first c (take 2 text) (first_so _ _ h)) (no-replacement text (second_so (is_kept c) (list_all is_kept text) h))
  where
    step : (a b : Bool) → a ≡ false → b ≡ false → (a || b) ≡ false
    step a b e f = λ i. e i || f i

    first : (c : ℕ) (rest : List ℕ) → is_kept c ≡ true → (nat_eq 0xEF c && pointwise nat_eq (0xBF ∷ 0xBD ∷ []) rest) ≡ false
    first c rest h = grind (arith, nat_tests)

-- ---- the digits of a number

digit_kept : (c : ℕ) → 48 ≤ c → c ≤ 57 → is_kept c ≡ true
digit_kept c a b = grind (arith, nat_tests)

digit_ampersand : (c : ℕ) → 48 ≤ c → c ≤ 57 → not (c == 38) ≡ true
digit_ampersand c a b = grind (arith, nat_tests)

module _ (base : ℕ) (small : base < 2 ^ 32) where
  fits : base < 2 ^ 64
  fits = omega (arith, small)

  kept : list_all is_kept (decimal base) ≡ true
  kept = all_decimal is_kept digit_kept base fits

  no_ampersand : NonePass ampersand (base_text base)
  no_ampersand = all-append _ (codes "base=") (decimal base) refl (all_decimal _ digit_ampersand base fits)

  -- its one pair, still encoded
  raw-base : raw_pairs (base_text base) ≡ base_pairs base
  raw-base =
      raw_pairs_first (base_text base) (some (whole-before ampersand (base_text base) no_ampersand))
      ∙ (λ i. split_pair (whole-before ampersand (base_text base) no_ampersand i) ∷ raw_pairs (whole-after ampersand (base_text base) no_ampersand i))
      ∙ (λ i. (cut-before equals (codes "base") (decimal base) 61 refl refl i, cut-after equals (codes "base") (decimal base) 61 refl refl i) ∷ raw_pairs-nil i)
    where
      some : (split_once 38 (base_text base)).0 ≡ base_text base → 0 < length (split_once 38 (base_text base)).0
      some e = subst (λ text. 0 < length text) (sym e) (omega arith)

  pub pairs-of-base : query_pairs (base_text base) ≡ base_pairs base
  pairs-of-base = ap (map texts_of) raw-base ∙ (λ i. (text-kept (codes "base") refl i, text-kept (decimal base) kept i) ∷ [])

  -- a query of a base alone is taken where a base may stand
  pub taken-base : taken (optional (codes "base") ∷ []) (base_pairs base) ≡ Ok tt
  taken-base = rw (no-replacement (decimal base) kept) refl

  pub base-in : base_in (base_pairs base) ≡ Ok (Some base)
  base-in = ap (λ o. or_refuse (BadQuery Value) (option_map Some o)) (number_of-decimal (2 ^ 32 - 1) base (omega (arith, small)) (lit< tt))
