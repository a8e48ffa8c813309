-- Whether all callers are there depends on their numbers alone; a first caller with the row of its children is all.
use Rattle.std.proofs.Common.{◌≡◌, ℕ, zero, suc, ◌+◌, ◌<◌, ◌≤◌, eq-eqb, ne_eqb, List, [], ◌∷◌, ◌++◌, true, cond, refl}
use Rattle.std.proofs.Common.{sym, ap, ◌∙◌, arith}
use mathlib.Core.Logic.{dite}
use native.Mathlib.Decide.{ℕ_discrete}
use Rattle.turn_lock.specs.declared.object.Entry.{Entry}
use Rattle.turn_lock.specs.declared.object.Caller.{Caller}
use Rattle.turn_lock.specs.History.{caller, with_call, has_number, HasChildren, AllReturned, same_number}
use Rattle.turn_lock.specs.Returned.{SameNumbers, children_row}

module _ {A B : Type 0} where
  pub same_self : (ps : List (Caller A B)) → SameNumbers ps ps
  same_self [] = tt
  same_self (p ∷ ps) = (refl, refl, same_self ps)

  pub same_trans : (ps qs rs : List (Caller A B)) → SameNumbers ps qs → SameNumbers qs rs → SameNumbers ps rs
  same_trans [] [] rs one two = two
  same_trans [] (q ∷ qs) rs one two = absurd one
  same_trans (p ∷ ps) [] rs one two = absurd one
  same_trans (p ∷ ps) (q ∷ qs) [] one two = absurd two
  same_trans (p ∷ ps) (q ∷ qs) (r ∷ rs) one two = (one.0 ∙ two.0, one.1 ∙ two.1, same_trans ps qs rs one.2 two.2)

  -- a call changes no number
  pub same_called : (a : A) (b : B) (ps : List (Caller A B)) → SameNumbers ps (with_call a b ps)
  same_called a b [] = tt
  same_called a b (p ∷ ps) = (refl, refl, same_self ps)

  pub same_append : (ps qs rs ss : List (Caller A B)) → SameNumbers ps qs → SameNumbers rs ss → SameNumbers (ps ++ rs) (qs ++ ss)
  same_append [] [] rs ss one two = two
  same_append [] (q ∷ qs) rs ss one two = absurd one
  same_append (p ∷ ps) [] rs ss one two = absurd one
  same_append (p ∷ ps) (q ∷ qs) rs ss one two = (one.0, one.1, same_append ps qs rs ss one.2 two)

  has_same : (ps qs : List (Caller A B)) (n : List ℕ) → SameNumbers ps qs → has_number ps n ≡ has_number qs n
  has_same [] [] n same = refl
  has_same [] (q ∷ qs) n same = absurd same
  has_same (p ∷ ps) [] n same = absurd same
  has_same (p ∷ ps) (q ∷ qs) n same = λ k. cond (same_number (same.0 k) n) true (has_same ps qs n same.2 k)

  children_same : (all all' ps qs : List (Caller A B)) → SameNumbers all all' → SameNumbers ps qs → HasChildren all ps → HasChildren all' qs
  children_same all all' [] [] every same children = tt
  children_same all all' [] (q ∷ qs) every same children = absurd same
  children_same all all' (p ∷ ps) [] every same children = absurd same
  children_same all all' (p ∷ ps) (q ∷ qs) every same children = (
    (λ k less. sym (has_same all all' (q.number ++ k ∷ []) every)
        ∙ ap (λ (n : List ℕ). has_number all (n ++ k ∷ [])) (sym same.0) ∙ children.0 k (omega (arith, less, same.1))),
    children_same all all' ps qs every same.2 children.1,
  )

  pub returned_same : (ps qs : List (Caller A B)) → SameNumbers ps qs → AllReturned ps → AllReturned qs
  returned_same ps qs same returned = (sym (has_same ps qs [] same) ∙ returned.0, children_same ps qs ps qs same same returned.1)

  has_row : (calls : List (Entry A B)) (s n k : ℕ) → s ≤ k → k < s + n → has_number {A = A} {B = B} (children_row s n) (k ∷ []) ≡ true
  has_row calls s zero k low high = absurd (omega (arith, low, high))
  has_row calls s (suc n) k low high = dite (ℕ_discrete s k)
      (λ same. rw (eq-eqb s k same) refl)
      (λ other. rw (ne_eqb s k other) (has_row calls (suc s) n k (omega (arith, low, other)) (omega (arith, high))))

  none_of_row : (all : List (Caller A B)) (s n : ℕ) → HasChildren all (children_row s n)
  none_of_row all s zero = tt
  none_of_row all s (suc n) = ((λ k less. absurd (omega (arith, less))), none_of_row all (suc s) n)

  pub row_returned : (n : ℕ) (calls : List (Entry A B)) → AllReturned (caller [] n calls ∷ children_row 0 n)
  row_returned n calls = (
    refl,
    ((λ k less. has_row calls 0 n k (omega arith) (omega (arith, less))), none_of_row (caller [] n calls ∷ children_row 0 n) 0 n),
  )

  -- a row with one child more
  pub row_more : (s n : ℕ) → children_row {A = A} {B = B} s (suc n) ≡ children_row s n ++ caller ((s + n) ∷ []) 0 [] ∷ []
  row_more s zero = let e : s ≡ s + 0 = omega arith in ap (λ (m : ℕ). caller {A = A} {B = B} (m ∷ []) 0 [] ∷ []) e
  row_more s (suc n) =
      let e : suc s + n ≡ s + suc n = omega arith in
      ap (λ (l : List (Caller A B)). caller (s ∷ []) 0 [] ∷ l)
      (row_more (suc s) n ∙ ap (λ (m : ℕ). children_row {A = A} {B = B} (suc s) n ++ caller (m ∷ []) 0 [] ∷ []) e)
