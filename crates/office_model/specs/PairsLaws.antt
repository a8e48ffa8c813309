-- Laws of specs/Pairs.
--     pair_at      the second list has an element too, where the first has one
--     pairs_push, pairs_front, pairs_last      with a further element in both, and back
--     same_elements      lists of the same elements are one
use Rattle.std.specs.Prelude.{◌≡◌, ◌≢◌, ℕ, zero, suc, List, [], ◌∷◌, ◌++◌, length, Some, slice_get, ◌⊎◌}
use Rattle.std.proofs.Common.{refl, sym, ap, ◌∙◌, subst, inl, inr, arith}
use Rattle.std.proofs.lemmas.Option.{slice_get_within}
use Rattle.office_model.specs.PlacesLaws.{in_longer, slice_get-longer}
use Rattle.office_model.specs.Pairs.{AtEachPair}

module _ {A B : Type 0} where
  -- of two lists of one length, where the first has an element, the second has one
  pub other_at : (xs : List A) (ys : List B) (i : ℕ) (x : A) → length ys ≡ length xs → slice_get xs i ≡ Some x
      → (y : B) × (slice_get ys i ≡ Some y)
  other_at [] ys i x counted e = absurd cc
  other_at (x' ∷ xs) [] i x counted e = absurd (omega (arith, counted))
  other_at (x' ∷ xs) (y ∷ ys) zero x counted e = (y, refl)
  other_at (x' ∷ xs) (y ∷ ys) (suc i) x counted e = other_at xs ys i x (omega (arith, counted)) e

  module _ (P : ℕ → A → B → Type 0) where
    pub pair_at : (xs : List A) (ys : List B) → AtEachPair P xs ys → (i : ℕ) (x : A) → slice_get xs i ≡ Some x
        → (y : B) × (slice_get ys i ≡ Some y) × P i x y
    pair_at xs ys pairs i x e = let y = other_at xs ys i x pairs.counted e in (y.0, y.1, pairs.each i x y.0 e y.1)

    pub no_pairs : AtEachPair P [] []
    no_pairs = record { counted = refl; each = λ i x y e f. absurd cc }

    -- of fewer or others
    pub pairs_each : (Q : ℕ → A → B → Type 0) (xs : List A) (ys : List B)
        → ((i : ℕ) (x : A) (y : B) → slice_get xs i ≡ Some x → slice_get ys i ≡ Some y → P i x y → Q i x y) → AtEachPair P xs ys
        → AtEachPair Q xs ys
    pairs_each Q xs ys step pairs = record { counted = pairs.counted; each = λ i x y e f. step i x y e f (pairs.each i x y e f) }

-- a list with a further element: how long it is, and what is at its end and elsewhere
pub longer : {A : Type 0} (xs : List A) (x : A) → length (xs ++ x ∷ []) ≡ suc (length xs)
longer [] x = refl
longer (y ∷ xs) x = ap suc (longer xs x)

pub last_there : {A : Type 0} (xs : List A) (x : A) → slice_get (xs ++ x ∷ []) (length xs) ≡ Some x
last_there [] x = refl
last_there (y ∷ xs) x = last_there xs x

pub others_there : {A : Type 0} (xs : List A) (x : A) (q : ℕ) → q ≢ length xs → slice_get (xs ++ x ∷ []) q ≡ slice_get xs q
others_there [] x zero other = absurd (other refl)
others_there [] x (suc q) other = refl
others_there (y ∷ xs) x zero other = refl
others_there (y ∷ xs) x (suc q) other = others_there xs x q (λ same. other (ap suc same))

module _ {A B : Type 0} (R : A → B → Type 0) where
  -- with two further elements
  pub pairs_push : (xs : List A) (ys : List B) → AtEachPair (λ i. R) xs ys → (x : A) (y : B) → R x y
      → AtEachPair (λ i. R) (xs ++ x ∷ []) (ys ++ y ∷ [])
  pairs_push xs ys pairs x y r = record {
    counted = longer ys y ∙ ap suc pairs.counted ∙ sym (longer xs x);
    each = λ i a b e f. step i a b (in_longer xs x i a e) (in_longer ys y i b f);
  }
    where
      step : (i : ℕ) (a : A) (b : B) → (slice_get xs i ≡ Some a) ⊎ ((i ≡ length xs) × (a ≡ x))
          → (slice_get ys i ≡ Some b) ⊎ ((i ≡ length ys) × (b ≡ y)) → R a b
      step i a b (inl e) (inl f) = pairs.each i a b e f
      step i a b (inl e) (inr f) = absurd (omega (arith, slice_get_within xs i a e, f.0, pairs.counted))
      step i a b (inr e) (inl f) = absurd (omega (arith, slice_get_within ys i b f, e.0, pairs.counted))
      step i a b (inr e) (inr f) = subst (λ (a : A). R a b) (sym e.1) (subst (R x) (sym f.1) r)

  module _ (xs : List A) (x : A) (ys : List B) (y : B) (pairs : AtEachPair (λ i. R) (xs ++ x ∷ []) (ys ++ y ∷ [])) where
    abbrev fronts : length ys ≡ length xs
    fronts = omega (arith, pairs.counted, longer xs x, longer ys y)

    pub pairs_front : AtEachPair (λ i. R) xs ys
    pairs_front = record {
      counted = fronts;
      each = λ i a b e f. pairs.each i a b (slice_get-longer xs x i a e) (slice_get-longer ys y i b f);
    }

    pub pairs_last : R x y
    pairs_last = pairs.each (length xs) x y (last_there xs x) (subst (λ (n : ℕ). slice_get (ys ++ y ∷ []) n ≡ Some y) fronts (last_there ys y))

-- lists of the same elements are one
pub same_elements : {A : Type 0} (xs ys : List A) → length ys ≡ length xs
    → ((i : ℕ) (x y : A) → slice_get xs i ≡ Some x → slice_get ys i ≡ Some y → x ≡ y) → xs ≡ ys
same_elements [] [] counted each = refl
same_elements [] (y ∷ ys) counted each = absurd (omega (arith, counted))
same_elements (x ∷ xs) [] counted each = absurd (omega (arith, counted))
same_elements (x ∷ xs) (y ∷ ys) counted each =
    let rest : length ys ≡ length xs = omega (arith, counted) in
    λ i. each zero x y refl refl i ∷ same_elements xs ys rest (λ n a b f g. each (suc n) a b f g) i
