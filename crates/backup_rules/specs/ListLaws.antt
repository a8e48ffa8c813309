-- A list of rules behind the number of its items.
--     IsListOf      the lists of items that each fit for themselves, at least so many and at most sixteen
--     counts_are, periods_are      the two kinds of them
--     sees_list      the list, seen as its length and its items
use Rattle.std.specs.Prelude.{ℕ, List, [], length}
use Rattle.std.specs.Int.{w8}
use Rattle.std.proofs.Common.{refl, sym, subst, arith}
use Rattle.wire_bytes.specs.Breaks.{AreItems}
use Rattle.wire_bytes.specs.Grammar.{field, number, followed_by, items_of, Sees}
use Rattle.wire_bytes.specs.ItemLaws.{AreItems-from_all, AllByRecursion-from_items}
use Rattle.backup_rules.specs.Ranges.{IsWithin, IsKeepCount, IsKeepCounts, IsPeriod, ArePeriods}

pub record IsListOf {V : Type 0} (P : V → Type 0) (low : ℕ) (IsList : List V → Type 0) : Type 0 where
  pub makes : (xs : List V) → IsWithin low 16 (length xs) → AreItems (λ _. P) [] xs → IsList xs
  pub within : (xs : List V) → IsList xs → IsWithin low 16 (length xs)
  pub each : (xs : List V) → IsList xs → AreItems (λ _. P) [] xs

pub counts_are : IsListOf IsKeepCount 1 IsKeepCounts
counts_are = record {
  makes = λ xs within are. record { some = within.0; few = within.1; each = AllByRecursion-from_items IsKeepCount [] xs are };
  within = λ xs l. (l.some, l.few);
  each = λ xs l. AreItems-from_all IsKeepCount [] xs l.each;
}

pub periods_are : IsListOf IsPeriod 0 ArePeriods
periods_are = record {
  makes = λ xs within are. record { few = within.1; each = AllByRecursion-from_items IsPeriod [] xs are };
  within = λ xs l. (omega arith, l.few);
  each = λ xs l. AreItems-from_all IsPeriod [] xs l.each;
}

pub sees_list : {V : Type 0} {P : V → Type 0} {low : ℕ} {IsList : List V → Type 0} (print : V → List ℕ) → IsListOf P low IsList
    → Sees (followed_by (number w8 (IsWithin low 16)) (items_of (λ _. P) print)) IsList (λ xs. (length xs, xs)) (λ p. p.1)
unfolding field followed_by items_of
sees_list {V} {P} {low} {IsList} print is = record {
  fits = λ xs l. (is.within xs l, (is.each xs l, refl));
  made = λ xs l. refl;
  makes = λ p are. is.makes p.1 (subst (IsWithin low 16) (sym are.1.1) are.0) are.1.0;
  parted = λ p are i. (are.1.1 i, p.1);
}
