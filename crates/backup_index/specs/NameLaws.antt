-- Names that differ, one at a time.
--     differ_push      one more name, which the others are not
--     counted_name      a name is short enough to be counted in one byte
--     names_in_turn, names_differ, names_each      names that differ are names in turn, and the other way round
use Rattle.std.proofs.Common.{◌≡◌, ℕ, ◌<◌, nat_le, true, false, ◌&&◌, List, [], ◌∷◌, ◌++◌, length, bytes_eq, arith}
use Rattle.std.specs.Int.{w8}
use Rattle.std.specs.Cmp.{first_so, second_so}
use Rattle.std.proofs.lemmas.Bool.Decides.{nat_tests}
use Rattle.std.specs.List.{AllByRecursion, list_all}
use Rattle.wire_bytes.specs.Breaks.{AreItems}
use Rattle.wire_bytes.specs.Layout.{IsText}
use Rattle.attr_records.specs.Names.{is_host_name, is_host_byte, begins_with_letter_or_digit}
use Rattle.backup_index.specs.Names.{has_name, Differ, IsHostName, IsFreshName}
use Rattle.backup_index.specs.FreshLaws as items

names_fresh : items.AreFresh bytes_eq IsHostName IsFreshName
names_fresh = record { make = λ before name kept fresh. record { kept = kept; fresh = fresh }; kept = λ before name is. is.kept; fresh = λ before name is. is.fresh }

pub differ_none : Differ []
differ_none = items.differ_none bytes_eq

pub differ_push : (names : List (List ℕ)) (name : List ℕ) → Differ names → has_name names name ≡ false → Differ (names ++ name ∷ [])
differ_push names name differ fresh = items.differ_push bytes_eq names name differ fresh

pub names_in_turn : (before names : List (List ℕ)) → Differ (before ++ names) → AllByRecursion IsHostName names → AreItems IsFreshName before names
names_in_turn before names differ each = items.in_turn names_fresh before names differ each

pub names_differ : (before names : List (List ℕ)) → Differ before → AreItems IsFreshName before names → Differ (before ++ names)
names_differ before names differ turn = items.turn_differ names_fresh before names differ turn

pub names_each : (before names : List (List ℕ)) → AreItems IsFreshName before names → AllByRecursion IsHostName names
names_each before names turn = items.turn_each names_fresh before names turn

-- a name is short enough to be counted in one byte
pub counted_name : (name : List ℕ) → IsHostName name → IsText w8 name
unfolding is_host_name
counted_name name kept =
    step (length name) (first_so (nat_le (length name) 64) (list_all is_host_byte name) (second_so (begins_with_letter_or_digit name) (nat_le (length name) 64 && list_all is_host_byte name) kept))
  where
    step : (n : ℕ) → nat_le n 64 ≡ true → n < 256
    step n short = grind (arith, nat_tests)
