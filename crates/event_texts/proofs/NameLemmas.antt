-- The names that stand in paths: hosts, numbers, sessions.
use Rattle.std.proofs.Common.{◌≡◌, ◌≢◌, ℕ, zero, suc, ◌-◌, ◌<◌, ◌≤◌, ◌^◌, ◌==◌, nat_le, Bool, true, not, ◌&&◌, List, [], ◌∷◌, length, Some, option_map, option_and_then, refl, ◌∙◌, arith, decimal, get_or, length-append, lit<}
use Rattle.std.specs.List.{list_all}
use Rattle.std.specs.Cmp.{first_so, second_so}
use Rattle.std.specs.Str.{IsAscii, IsUtf8}
use Rattle.std.specs.Str.Parse.{AllDigits}
use Rattle.std.proofs.lemmas.Bool.{leb-true}
use Rattle.std.proofs.lemmas.Bool.Decides.{nat_tests}
use Rattle.std.proofs.lemmas.Fmt.{decimal_is_IsNumeral}
use Rattle.std.proofs.lemmas.List.Sums.{AllPass-from_list_all}
use Rattle.std.proofs.lemmas.Str.{IsUtf8-from_ascii}
use Rattle.std.proofs.lemmas.Str.Parse.{digit_from_value}
use Rattle.attr_records.specs.Names.{is_host_name, is_host_byte, begins_with_letter_or_digit}
use Rattle.http_query.specs.Numbers.{number_of}
use Rattle.http_query.proofs.ScanLaws.{number_of-decimal}
use Rattle.http_routes.specs.Forms.{IsPiece}
use Rattle.receipts.specs.declared.session.SessionName.{SessionName}
use Rattle.receipts.specs.Session.{session_text}
use Rattle.request_events.specs.Names.{session_of}
use Rattle.event_texts.specs.Laws.{IsSession}
use Rattle.event_texts.proofs.CutLemmas.{NonePass, and_true, all-append, cut-before, cut-after}

-- the byte is `/`, `?`, `-`
abbrev pub slash : ℕ → Bool
slash byte = byte == 47

abbrev pub question : ℕ → Bool
question byte = byte == 63

abbrev pub dash : ℕ → Bool
dash byte = byte == 45

-- a text that may stand in a path: neither a slash nor a question mark is in it
pub record IsName (text : List ℕ) : Type 0 where
  pub some : 0 < length text
  pub no_slash : NonePass slash text
  pub no_question : NonePass question text

-- ---- what all bytes of a text are

all_digits : (q : ℕ → Bool) → ((c : ℕ) → 48 ≤ c → c ≤ 57 → q c ≡ true) → (ds : List ℕ) → AllDigits 10 ds → list_all q ds ≡ true
all_digits q each [] h = refl
all_digits q each (d ∷ ds) h =
    let range = digit_from_value d h.0 in and_true _ _ (each d (omega (arith, range)) (omega (arith, range))) (all_digits q each ds h.1)

-- what holds of each digit, holds of each byte of a number
pub all_decimal : (q : ℕ → Bool) → ((c : ℕ) → 48 ≤ c → c ≤ 57 → q c ≡ true) → (n : ℕ) → n < 2 ^ 64 → list_all q (decimal n) ≡ true
all_decimal q each n fits = all_digits q each (decimal n) (decimal_is_IsNumeral n fits).0.1

all_hosts : (q : ℕ → Bool) → ((c : ℕ) → is_host_byte c ≡ true → q c ≡ true) → (text : List ℕ) → list_all is_host_byte text ≡ true
    → list_all q text ≡ true
all_hosts q each [] h = refl
all_hosts q each (c ∷ text) h =
    and_true _ _ (each c (first_so _ _ h)) (all_hosts q each text (second_so (is_host_byte c) (list_all is_host_byte text) h))

digit_slash : (c : ℕ) → 48 ≤ c → c ≤ 57 → not (c == 47) ≡ true
digit_slash c a b = grind (arith, nat_tests)

digit_question : (c : ℕ) → 48 ≤ c → c ≤ 57 → not (c == 63) ≡ true
digit_question c a b = grind (arith, nat_tests)

digit_dash : (c : ℕ) → 48 ≤ c → c ≤ 57 → not (c == 45) ≡ true
digit_dash c a b = grind (arith, nat_tests)

host_slash : (c : ℕ) → is_host_byte c ≡ true → not (c == 47) ≡ true
host_slash c h = grind (arith, nat_tests)

host_question : (c : ℕ) → is_host_byte c ≡ true → not (c == 63) ≡ true
host_question c h = grind (arith, nat_tests)

host_is_ascii : (c : ℕ) → is_host_byte c ≡ true → c < 128
host_is_ascii c h = grind (arith, nat_tests)

ascii_text : (text : List ℕ) → list_all is_host_byte text ≡ true → IsAscii text
ascii_text [] all i = omega arith
ascii_text (byte ∷ text) all zero = host_is_ascii byte (first_so _ _ all)
ascii_text (byte ∷ text) all (suc i) = ascii_text text (second_so _ _ all) i

-- ---- names

pub decimal_name : (n : ℕ) → n < 2 ^ 64 → IsName (decimal n)
decimal_name n fits = record {
  some = (decimal_is_IsNumeral n fits).0.0;
  no_slash = all_decimal _ digit_slash n fits;
  no_question = all_decimal _ digit_question n fits;
}

host_bytes : (host : List ℕ) → is_host_name host ≡ true → list_all is_host_byte host ≡ true
unfolding is_host_name
host_bytes host h =
    second_so (nat_le (length host) 64) (list_all is_host_byte host)
    (second_so (begins_with_letter_or_digit host) (nat_le (length host) 64 && list_all is_host_byte host) h)

host_begins : (host : List ℕ) → is_host_name host ≡ true → 0 < length host
unfolding is_host_name
host_begins [] h = cc
host_begins (c ∷ text) h = omega arith

-- what holds of each byte that may stand in a host's name, holds of each byte of one
pub all_of_host : (q : ℕ → Bool) → ((c : ℕ) → is_host_byte c ≡ true → q c ≡ true) → (host : List ℕ) → is_host_name host ≡ true
    → list_all q host ≡ true
all_of_host q each host h = all_hosts q each host (host_bytes host h)

pub host_is_short : (host : List ℕ) → is_host_name host ≡ true → length host ≤ 64
unfolding is_host_name
host_is_short host h =
    leb-true (length host) 64 (first_so (nat_le (length host) 64) (list_all is_host_byte host)
    (second_so (begins_with_letter_or_digit host) (nat_le (length host) 64 && list_all is_host_byte host) h))

pub host_name : (host : List ℕ) → is_host_name host ≡ true → IsName host
host_name host h =
    record {
      some = host_begins host h;
      no_slash = all_of_host _ host_slash host h;
      no_question = all_of_host _ host_question host h;
    }

pub host_is_text : (host : List ℕ) → is_host_name host ≡ true → IsUtf8 host
host_is_text host h = IsUtf8-from_ascii host (ascii_text host (host_bytes host h))

pub session_name : (name : SessionName) → IsSession name → IsName (session_text name)
session_name name fits =
    let e = decimal_name name.epoch fits.0 in
    let s = decimal_name name.sequence fits.1 in
    record {
      some = omega (arith, e.some, length-append (decimal name.epoch) (45 ∷ decimal name.sequence));
      no_slash = all-append _ (decimal name.epoch) (45 ∷ decimal name.sequence) e.no_slash s.no_slash;
      no_question = all-append _ (decimal name.epoch) (45 ∷ decimal name.sequence) e.no_question s.no_question;
    }

pub piece_of : (text : List ℕ) → IsName text → IsPiece text
piece_of text name = (name.some, λ k d inside. no (get_or text k d) (AllPass-from_list_all (λ x. not (slash x)) text name.no_slash k d inside))
  where
    no : (c : ℕ) → not (c == 47) ≡ true → c ≢ 47
    no c e is = grind (arith, nat_tests)

-- the session of its text
pub session-back : (name : SessionName) → IsSession name → session_of (session_text name) ≡ Some name
unfolding session_of
session-back name fits =
    let plain = all_decimal _ digit_dash name.epoch fits.0 in
    (λ i. option_and_then (λ epoch. option_map (λ sequence. record { epoch = epoch; sequence = sequence })
    (number_of (2 ^ 64 - 1) (cut-after dash (decimal name.epoch) (decimal name.sequence) 45 plain refl i)))
    (number_of (2 ^ 64 - 1) (cut-before dash (decimal name.epoch) (decimal name.sequence) 45 plain refl i)))
    ∙ (λ i. option_and_then (λ epoch. option_map (λ sequence. record { epoch = epoch; sequence = sequence })
    (number_of-decimal (2 ^ 64 - 1) name.sequence (omega (arith, fits.1)) (lit< tt) i))
    (number_of-decimal (2 ^ 64 - 1) name.epoch (omega (arith, fits.0)) (lit< tt) i))
