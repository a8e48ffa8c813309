-- Names, paths and digits are text.
use Rattle.std.proofs.Common.{◌≡◌, ℕ, ◌<◌, ◌/◌, Bool, true, false, ◌&&◌, not, List, [], ◌∷◌, length, None, refl, arith}
use Rattle.std.specs.Prelude.{nat_le}
use Rattle.std.specs.List.{list_all}
use Rattle.std.specs.Str.{is_utf8, IsAscii}
use Rattle.std.proofs.lemmas.Bool.Decides.{nat_tests}
use Rattle.std.proofs.lemmas.Grind.{common_steps}
use Rattle.std.proofs.lemmas.Str.{IsUtf8-from_ascii, is_utf8-from_IsUtf8}
use Rattle.std.proofs.lemmas.Str.Ascii.{IsAscii-nil, IsAscii-cons}
use Rattle.attr_records.specs.Names.{is_host_name, is_host_byte, begins_with_letter_or_digit, is_link_target}
use Rattle.attr_records.specs.PathRules.{broken_path_rule, has_nul, is_empty_component}
use Rattle.attr_records.specs.PathRuleLaws.{rules_kept}
use Rattle.reply_bodies.specs.Replies.{octal, octal_digit}

pub ascii_is_text : (text : List ℕ) → IsAscii text → is_utf8 text ≡ true
ascii_is_text text ascii = is_utf8-from_IsUtf8 text (IsUtf8-from_ascii text ascii)

both : (a b : Bool) → (a && b) ≡ true → (a ≡ true) × (b ≡ true)
both true true e = (refl, refl)
both true false e = absurd cc
both false b e = absurd cc

host_byte : (b : ℕ) → is_host_byte b ≡ true → b < 128
host_byte b e = grind (arith, common_steps, nat_tests, e)

host_bytes : (text : List ℕ) → list_all is_host_byte text ≡ true → IsAscii text
host_bytes [] e = IsAscii-nil
host_bytes (b ∷ text) e =
    let p = both (is_host_byte b) (list_all is_host_byte text) e in
    IsAscii-cons b text (host_byte b p.0) (host_bytes text p.1)

pub host_is_text : (host : List ℕ) → is_host_name host ≡ true → is_utf8 host ≡ true
unfolding is_host_name
host_is_text host e =
    let p = both (begins_with_letter_or_digit host) (nat_le (length host) 64 && list_all is_host_byte host) e in
    let q = both (nat_le (length host) 64) (list_all is_host_byte host) p.1 in
    ascii_is_text host (host_bytes host q.1)

pub path_is_text : (path : List ℕ) → broken_path_rule path ≡ None → is_utf8 path ≡ true
path_is_text path e = (rules_kept path e).text

pub target_is_text : (target : List ℕ) → is_link_target target ≡ true → is_utf8 target ≡ true
unfolding is_link_target
target_is_text target e =
    let p = both (not (is_empty_component target)) (nat_le (length target) 4096 && (is_utf8 target && not (has_nul target))) e in
    let q = both (nat_le (length target) 4096) (is_utf8 target && not (has_nul target)) p.1 in
    (both (is_utf8 target) (not (has_nul target)) q.1).0

digit_byte : (n : ℕ) → octal_digit n < 128
digit_byte n = omega arith

four_bytes : (a b c d : ℕ) → a < 128 → b < 128 → c < 128 → d < 128 → IsAscii (a ∷ b ∷ c ∷ d ∷ [])
four_bytes a b c d p q r s =
    IsAscii-cons a (b ∷ c ∷ d ∷ []) p (IsAscii-cons b (c ∷ d ∷ []) q (IsAscii-cons c (d ∷ []) r (IsAscii-cons d [] s IsAscii-nil)))

pub octal_is_text : (mode : ℕ) → is_utf8 (octal mode) ≡ true
octal_is_text mode =
    ascii_is_text (octal mode)
    (four_bytes (octal_digit (mode / 512)) (octal_digit (mode / 64)) (octal_digit (mode / 8)) (octal_digit mode)
    (digit_byte (mode / 512)) (digit_byte (mode / 64)) (digit_byte (mode / 8)) (digit_byte mode))
