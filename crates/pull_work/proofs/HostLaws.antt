-- The name of a host is short.
use Rattle.std.specs.Prelude.{nat_le}
use Rattle.std.specs.List.{list_all}
use Rattle.std.proofs.Common.{◌≡◌, ℕ, ◌≤◌, Bool, true, false, ◌&&◌, List, length, refl, arith}
use Rattle.std.proofs.lemmas.Bool.Decides.{nat_tests}
use Rattle.attr_records.specs.Names.{is_host_name, is_host_byte, begins_with_letter_or_digit}

second : (a b c : Bool) → (a && (b && c)) ≡ true → b ≡ true
second true true c e = refl
second true false c e = absurd cc
second false b c e = absurd cc

small : (n : ℕ) → nat_le n 64 ≡ true → n ≤ 64
small n e = grind (arith, nat_tests)

pub short_host : (name : List ℕ) → is_host_name name ≡ true → length name ≤ 64
unfolding is_host_name
short_host name e = small (length name) (second (begins_with_letter_or_digit name) (nat_le (length name) 64) (list_all is_host_byte name) e)
