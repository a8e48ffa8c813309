-- Ages as signed differences.
use Rattle.std.proofs.Common.{◌≡◌, ℕ, ◌+◌, ◌-◌, nat_lt, arith}
use Rattle.std.proofs.lemmas.Bool.Decides.{nat_tests}

-- a difference that saturates at 0 is above a number exactly if the signed one is
pub is_above : (start seconds now : ℕ) → nat_lt seconds (now - start) ≡ nat_lt (start + seconds) now
is_above start seconds now = grind (arith, nat_tests)
