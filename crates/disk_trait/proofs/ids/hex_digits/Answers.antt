use Rattle.std.proofs.Common.{◌≡◌, ℕ, zero, suc, ◌<◌, true, List, [], ◌∷◌, nat_lt, refl, sym, subst, arith}
use Rattle.std.specs.List.{list_all}
use Rattle.std.specs.Cmp.{first_so, second_so}
use Rattle.std.specs.Str.{IsUtf8, IsAscii}
use Rattle.std.proofs.lemmas.Str.{IsUtf8-from_ascii}
use Rattle.std.proofs.lemmas.Bool.Decides.{nat_tests}
use Rattle.hex.specs.Hex.{lower_digits}
use Rattle.hex.proofs.HexLemmas.{IsAscii-encode_with}
use Rattle.disk_trait.proofs.ids.hex_digits.Goals as goal

below : (byte : ℕ) → nat_lt byte 128 ≡ true → byte < 128
below byte e = grind (arith, nat_tests)

ascii_by_test : (bytes : List ℕ) → list_all (λ byte. nat_lt byte 128) bytes ≡ true → IsAscii bytes
ascii_by_test [] e i = omega arith
ascii_by_test (byte ∷ bytes) e zero = below byte (first_so (nat_lt byte 128) (list_all (λ b. nat_lt b 128) bytes) e)
ascii_by_test (byte ∷ bytes) e (suc i) = ascii_by_test bytes (second_so (nat_lt byte 128) (list_all (λ b. nat_lt b 128) bytes) e) i

pub returns-clause-text : goal.returns-clause-text
returns-clause-text c =
    subst IsUtf8 (sym c.in-Ok.ensures.written)
    (IsUtf8-from_ascii _ (IsAscii-encode_with lower_digits c.args.digest.now (ascii_by_test lower_digits refl)))
