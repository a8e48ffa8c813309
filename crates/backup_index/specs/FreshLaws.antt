-- Items that differ, one at a time: no two of a list are the same, and each is kept by a rule of its own.
--     Differ      no two are the same
--     differ_push      one more, which none of the others is
--     in_turn, turn_differ, turn_each      items that differ are fresh ones in turn, and the other way round
use Rattle.std.proofs.Common.{◌≡◌, Bool, false, List, [], ◌∷◌, ◌++◌, refl, sym, subst, append_assoc}
use Rattle.std.proofs.lemmas.List.{append-nil}
use Rattle.std.proofs.lemmas.Bool.{or_parts, or_from}
use Rattle.std.specs.List.{IsDistinct, AllByRecursion, list_any}
use Rattle.wire_bytes.specs.Breaks.{AreItems}

module _ {V : Type 0} (P : V → Type 0) where
  pub each_push : (xs : List V) (x : V) → AllByRecursion P xs → P x → AllByRecursion P (xs ++ x ∷ [])
  each_push [] x all here = (here, tt)
  each_push (y ∷ xs) x all here = (all.0, each_push xs x all.1 here)

  each_middle : (xs : List V) (x : V) (more : List V) → AllByRecursion P (xs ++ x ∷ more) → P x
  each_middle [] x more all = all.0
  each_middle (y ∷ xs) x more all = each_middle xs x more all.1

module _ {V : Type 0} (same : V → V → Bool) where
  abbrev pub Differ : List V → Type 0
  Differ xs = IsDistinct same xs

  abbrev pub is_among : List V → V → Bool
  is_among xs x = list_any (λ y. same y x) xs

  pub differ_none : Differ []
  unfolding IsDistinct
  differ_none = tt

  pub differ_push : (xs : List V) (x : V) → Differ xs → is_among xs x ≡ false → Differ (xs ++ x ∷ [])
  unfolding IsDistinct
  differ_push [] x differ fresh = (tt, tt)
  differ_push (y ∷ xs) x differ fresh =
      let parts = or_parts (same y x) (is_among xs x) fresh in
      (each_push (λ z. same y z ≡ false) xs x differ.0 parts.0, differ_push xs x differ.1 parts.1)

  differ_front : (xs : List V) (x : V) (more : List V) → Differ (xs ++ x ∷ more) → is_among xs x ≡ false
  unfolding IsDistinct
  differ_front [] x more differ = refl
  differ_front (y ∷ xs) x more differ =
      or_from (same y x) (is_among xs x) (each_middle (λ z. same y z ≡ false) xs x more differ.0) (differ_front xs x more differ.1)

-- an item that is kept by the rule and that none of those before is
pub record AreFresh {V : Type 0} (same : V → V → Bool) (Kept : V → Type 0) (Fresh : List V → V → Type 0) : Type 0 where
  pub make : (before : List V) (x : V) → Kept x → is_among same before x ≡ false → Fresh before x
  pub kept : (before : List V) (x : V) → Fresh before x → Kept x
  pub fresh : (before : List V) (x : V) → Fresh before x → is_among same before x ≡ false

module _ {V : Type 0} {same : V → V → Bool} {Kept : V → Type 0} {Fresh : List V → V → Type 0} (are : AreFresh same Kept Fresh) where
  pub in_turn : (before xs : List V) → Differ same (before ++ xs) → AllByRecursion Kept xs → AreItems Fresh before xs
  in_turn before [] differ each = tt
  in_turn before (x ∷ xs) differ each = (
    are.make before x each.0 (differ_front same before x xs differ),
    in_turn (before ++ x ∷ []) xs (subst (Differ same) (sym (append_assoc before (x ∷ []) xs)) differ) each.1,
  )

  pub turn_differ : (before xs : List V) → Differ same before → AreItems Fresh before xs → Differ same (before ++ xs)
  turn_differ before [] differ turn = subst (Differ same) (sym (append-nil before)) differ
  turn_differ before (x ∷ xs) differ turn =
      subst (Differ same) (append_assoc before (x ∷ []) xs) (turn_differ (before ++ x ∷ []) xs (differ_push same before x differ (are.fresh before x turn.0)) turn.1)

  pub turn_each : (before xs : List V) → AreItems Fresh before xs → AllByRecursion Kept xs
  turn_each before [] turn = tt
  turn_each before (x ∷ xs) turn = (are.kept before x turn.0, turn_each (before ++ x ∷ []) xs turn.1)
