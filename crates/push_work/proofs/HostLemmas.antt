-- The name of a host is text.
use Rattle.std.specs.Prelude.{nat_le}
use Rattle.std.specs.List.{list_all}
use Rattle.std.specs.Str.{IsAscii}
use Rattle.std.proofs.Common.{◌≡◌, ℕ, ◌<◌, Bool, true, false, ◌&&◌, List, [], ◌∷◌, length, IsUtf8, refl, arith}
use Rattle.std.proofs.lemmas.Bool.Decides.{nat_tests}
use Rattle.std.proofs.lemmas.Grind.{common_steps}
use Rattle.std.proofs.lemmas.Str.{IsUtf8-from_ascii}
use Rattle.std.proofs.lemmas.Str.Ascii.{IsAscii-nil, IsAscii-cons}
use Rattle.attr_records.specs.Names.{is_host_name, is_host_byte, begins_with_letter_or_digit}

both : (a b : Bool) → (a && b) ≡ true → (a ≡ true) × (b ≡ true)
both true true e = (refl, refl)
both true false e = absurd cc
both false b e = absurd cc

host_byte : (byte : ℕ) → is_host_byte byte ≡ true → byte < 128
host_byte byte e = grind (arith, common_steps, nat_tests, e)

host_bytes : (text : List ℕ) → list_all is_host_byte text ≡ true → IsAscii text
host_bytes [] e = IsAscii-nil
host_bytes (byte ∷ text) e =
    let p = both (is_host_byte byte) (list_all is_host_byte text) e in
    IsAscii-cons byte text (host_byte byte p.0) (host_bytes text p.1)

pub host_text : (name : List ℕ) → is_host_name name ≡ true → IsUtf8 name
unfolding is_host_name
host_text name e =
    let p = both (begins_with_letter_or_digit name) (nat_le (length name) 64 && list_all is_host_byte name) e in
    let q = both (nat_le (length name) 64) (list_all is_host_byte name) p.1 in
    IsUtf8-from_ascii name (host_bytes name q.1)
