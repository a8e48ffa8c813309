-- The values of a push's queries are read back.
use Rattle.std.proofs.Common.{◌≡◌, ℕ, ℤ, pos, negsuc, suc, ◌+◌, ◌-◌, ◌*◌, ◌<◌, ◌≤◌, ◌/◌, ◌%◌, ◌^◌, ◌==◌, nat_lt, nat_le, Bool, true, false, not, ◌&&◌, if◌then◌else◌, List, [], ◌∷◌, ◌++◌, length, Option, Some, None, Ok, option_map, option_and_then, IsAscii, IsUtf8, refl, sym, ap, ◌∙◌, arith, codes, decimal, lit<}
use Rattle.std.specs.Fmt.{signed_decimal}
use Rattle.std.specs.List.{list_all}
use Rattle.std.specs.Option.{option_map_or}
use Rattle.std.specs.Cmp.{first_so}
use Rattle.std.proofs.lemmas.Bool.{true≢false}
use Rattle.std.proofs.lemmas.Bool.Decides.{nat_tests}
use Rattle.std.proofs.lemmas.Fmt.{decimal_digit, IsAscii-decimal}
use Rattle.std.proofs.lemmas.Str.{IsAscii-append, IsUtf8-from_ascii}
use Rattle.std.proofs.lemmas.Str.Ascii.{IsAscii-nil, IsAscii-cons}
use Rattle.std.proofs.Math.IntN.{neg_ℤ}
use Rattle.attr_records.specs.Attributes.{Attributes}
use Rattle.http_query.specs.Numbers.{number_of, stripped, mode_of, octal_value, is_octal_digit, seconds_of}
use Rattle.http_query.specs.Query.{Pair, value_of, holds_replacement}
use Rattle.http_query.proofs.ScanLaws.{number_of-decimal, stripped-append, stripped_none}
use Rattle.request_events.specs.Items.{number_or, nanos_or, default_mode, attributes_of}
use Rattle.request_events.specs.Values.{value_or}
use Rattle.request_events.specs.declared.items.ItemKind.{ItemKind}
use Rattle.event_texts.proofs.NameLemmas.{all_decimal}
use Rattle.push_texts.specs.Queries.{mode_text, attribute_pairs}
use Rattle.push_texts.specs.Laws.{IsLong, AreAttributes}

-- ---- modes

digits-back : (a b c d : ℕ) → a < 8 → b < 8 → c < 8 → d < 8
    → mode_of ((48 + a) ∷ (48 + b) ∷ (48 + c) ∷ (48 + d) ∷ []) ≡ Some (a * 512 + (b * 64 + (c * 8 + d)))
unfolding mode_of
digits-back a b c d p q r s =
    ap (λ (all : Bool). if all then Some value else None) (λ i. octal a p i && (octal b q i && (octal c r i && (octal d s i && true)))) ∙ ap Some (sum a b c d)
  where
    value : ℕ
    value = octal_value ((48 + a) ∷ (48 + b) ∷ (48 + c) ∷ (48 + d) ∷ [])

    octal : (n : ℕ) → n < 8 → is_octal_digit (48 + n) ≡ true
    octal n h = grind (arith, nat_tests)

    sum : (a b c d : ℕ) → (48 + a - 48) * 512 + ((48 + b - 48) * 64 + ((48 + c - 48) * 8 + ((48 + d - 48) * 1 + 0))) ≡ a * 512 + (b * 64 + (c * 8 + d))
    sum a b c d = omega arith

digit-below : (n : ℕ) → n % 8 < 8
digit-below n = omega arith

digit-text : (n : ℕ) → decimal (n % 8) ≡ (48 + n % 8) ∷ []
digit-text n = decimal_digit (n % 8) (omega arith)

mode-digits : (mode : ℕ) → mode_text mode ≡ (48 + mode / 512 % 8) ∷ (48 + mode / 64 % 8) ∷ (48 + mode / 8 % 8) ∷ (48 + mode % 8) ∷ []
mode-digits mode = λ i. digit-text (mode / 512) i ++ (digit-text (mode / 64) i ++ (digit-text (mode / 8) i ++ digit-text mode i))

pub mode-back : (mode : ℕ) → mode ≤ 4095 → mode_of (mode_text mode) ≡ Some mode
mode-back mode small =
    ap mode_of (mode-digits mode)
    ∙ digits-back (mode / 512 % 8) (mode / 64 % 8) (mode / 8 % 8) (mode % 8) (digit-below (mode / 512)) (digit-below (mode / 64)) (digit-below (mode / 8)) (digit-below mode)
    ∙ ap Some (whole mode small)
  where
    whole : (n : ℕ) → n ≤ 4095 → n / 512 % 8 * 512 + (n / 64 % 8 * 64 + (n / 8 % 8 * 8 + n % 8)) ≡ n
    whole n h = omega arith

ascii-digit : (n : ℕ) → IsAscii (decimal (n % 8))
ascii-digit n = IsAscii-decimal (n % 8) (omega arith)

pub mode-ascii : (mode : ℕ) → IsAscii (mode_text mode)
mode-ascii mode =
    IsAscii-append (decimal (mode / 512 % 8)) (decimal (mode / 64 % 8) ++ (decimal (mode / 8 % 8) ++ decimal (mode % 8))) (ascii-digit (mode / 512))
    (IsAscii-append (decimal (mode / 64 % 8)) (decimal (mode / 8 % 8) ++ decimal (mode % 8)) (ascii-digit (mode / 64))
    (IsAscii-append (decimal (mode / 8 % 8)) (decimal (mode % 8)) (ascii-digit (mode / 8)) (ascii-digit mode)))

-- ---- times

digit-no_minus : (c : ℕ) → 48 ≤ c → c ≤ 57 → not (c == 45) ≡ true
digit-no_minus c a b = grind (arith, nat_tests)

no-minus : (n : ℕ) → n < 2 ^ 64 → (rest : List ℕ) → decimal n ≡ 45 ∷ rest → ⊥
no-minus n fits rest e =
    true≢false (sym (first_so false (list_all (λ b. not (b == 45)) rest) (sym (ap (list_all (λ b. not (b == 45))) e) ∙ all_decimal (λ b. not (b == 45)) digit-no_minus n fits)))

pub seconds-back : (z : ℤ) → IsLong z → seconds_of (signed_decimal z) ≡ Some z
unfolding seconds_of
seconds-back (pos n) h =
    ap (λ (cut : Option (List ℕ)). option_map_or (λ digits. option_map (λ n. neg_ℤ (pos n)) (number_of (2 ^ 63) digits)) cut (option_map (λ n. pos n) (number_of (2 ^ 63 - 1) (decimal n))))
    (stripped_none (codes "-") (decimal n) (no-minus n (omega (arith, h))))
    ∙ ap (option_map (λ n. pos n)) (number_of-decimal (2 ^ 63 - 1) n (omega (arith, h)) (lit< tt))
seconds-back (negsuc n) h =
    ap (λ (cut : Option (List ℕ)). option_map_or (λ digits. option_map (λ n. neg_ℤ (pos n)) (number_of (2 ^ 63) digits)) cut (option_map (λ n. pos n) (number_of (2 ^ 63 - 1) (45 ∷ decimal (suc n)))))
    (stripped-append (codes "-") (decimal (suc n)))
    ∙ ap (option_map (λ n. neg_ℤ (pos n))) (number_of-decimal (2 ^ 63) (suc n) (omega (arith, h)) (lit< tt))

pub seconds-ascii : (z : ℤ) → IsLong z → IsAscii (signed_decimal z)
seconds-ascii (pos n) h = IsAscii-decimal n (omega (arith, h))
seconds-ascii (negsuc n) h = IsAscii-cons 45 (decimal (suc n)) (omega arith) (IsAscii-decimal (suc n) (omega (arith, h)))

-- ---- attributes

-- the pairs say these attributes
pub record SaysAttributes (attr : Attributes) (pairs : List Pair) : Type 0 where
  pub mode : value_of (codes "mode") pairs ≡ Some (mode_text attr.mode)
  pub uid : value_of (codes "uid") pairs ≡ Some (decimal attr.uid)
  pub gid : value_of (codes "gid") pairs ≡ Some (decimal attr.gid)
  pub mtime : value_of (codes "mtime") pairs ≡ Some (signed_decimal attr.mtime)
  pub nanos : value_of (codes "nanos") pairs ≡ Some (decimal attr.nanos)

pub number-back : (key : List ℕ) (pairs : List Pair) (n : ℕ) → n < 2 ^ 32 → value_of key pairs ≡ Some (decimal n) → number_or key pairs ≡ Some n
number-back key pairs n small e =
    ap (λ (v : Option (List ℕ)). option_map_or (number_of (2 ^ 32 - 1)) v (Some 0)) e ∙ number_of-decimal (2 ^ 32 - 1) n (omega (arith, small)) (lit< tt)

pub attributes-back : (kind : ItemKind) (pairs : List Pair) (attr : Attributes) → AreAttributes attr → SaysAttributes attr pairs
    → attributes_of kind pairs ≡ Some attr
unfolding attributes_of
attributes-back kind pairs attr h s =
    let mode : value_or mode_of (default_mode kind) (codes "mode") pairs ≡ Some attr.mode =
    ap (λ (v : Option (List ℕ)). option_map_or mode_of v (Some (default_mode kind))) s.mode ∙ mode-back attr.mode h.mode in
    let uid : number_or (codes "uid") pairs ≡ Some attr.uid = number-back (codes "uid") pairs attr.uid h.uid s.uid in
    let gid : number_or (codes "gid") pairs ≡ Some attr.gid = number-back (codes "gid") pairs attr.gid h.gid s.gid in
    let mtime : value_or seconds_of (pos 0) (codes "mtime") pairs ≡ Some attr.mtime =
    ap (λ (v : Option (List ℕ)). option_map_or seconds_of v (Some (pos 0))) s.mtime ∙ seconds-back attr.mtime h.mtime in
    let nanos : nanos_or pairs ≡ Some attr.nanos =
    ap (λ (v : Option (List ℕ)). option_map_or (number_of 999999999) v (Some 0)) s.nanos ∙ number_of-decimal 999999999 attr.nanos h.nanos (lit< tt) in
    λ i. option_and_then (λ mode. option_and_then (λ uid. option_and_then (λ gid. option_and_then (λ mtime. option_map
    (λ nanos. record { mode = mode; uid = uid; gid = gid; mtime = mtime; nanos = nanos })
    (nanos i))
    (mtime i))
    (gid i))
    (uid i))
    (mode i)
