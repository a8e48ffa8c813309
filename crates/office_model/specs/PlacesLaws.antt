-- Laws of specs/Places.
use Rattle.std.specs.Prelude.{◌≡◌, ◌≢◌, ℕ, zero, suc, ◌+◌, ◌<◌, Bool, true, false, cond, List, [], ◌∷◌, ◌++◌, length, Option, Some, None, slice_get, slice_set, ◌⊎◌}
use Rattle.std.specs.List.{position_from, remove}
use Rattle.std.proofs.Common.{refl, sym, ap, ◌∙◌, subst, inl, inr, arith}
use Rattle.std.proofs.lemmas.Bool.{true≢false}
use Rattle.office_model.specs.Places.{AtEach, Differ, place_before}

pub same_place_before : (p i j : ℕ) → place_before p i ≡ place_before p j → i ≡ j
same_place_before zero i j e = omega arith
same_place_before (suc p) zero zero e = refl
same_place_before (suc p) zero (suc j) e = cc
same_place_before (suc p) (suc i) zero e = cc
same_place_before (suc p) (suc i) (suc j) e =
    let f : place_before p i ≡ place_before p j = omega arith in ap suc (same_place_before p i j f)

pub place_before-other : (p i : ℕ) → place_before p i ≢ p
place_before-other zero i e = omega arith
place_before-other (suc p) zero e = omega arith
place_before-other (suc p) (suc i) e = place_before-other p i (omega arith)

module _ {A : Type 0} where
  pub slice_get-remove : (xs : List A) (p i : ℕ) → slice_get (remove xs p) i ≡ slice_get xs (place_before p i)
  slice_get-remove [] zero i = refl
  slice_get-remove [] (suc p) i = nothing (place_before (suc p) i)
    where
      nothing : (i : ℕ) → None ≡ slice_get {X = A} [] i
      nothing i = refl
  slice_get-remove (x ∷ xs) zero i = refl
  slice_get-remove (x ∷ xs) (suc p) zero = refl
  slice_get-remove (x ∷ xs) (suc p) (suc i) = slice_get-remove xs p i

  pub slice_get-set_same : (xs : List A) (i : ℕ) (x : A) → i < length xs → slice_get (slice_set xs i x) i ≡ Some x
  slice_get-set_same [] i x h = absurd (omega arith)
  slice_get-set_same (y ∷ xs) zero x h = refl
  slice_get-set_same (y ∷ xs) (suc i) x h = slice_get-set_same xs i x (omega arith)

  pub slice_get-set_other : (xs : List A) (p i : ℕ) (x : A) → i ≢ p → slice_get (slice_set xs p x) i ≡ slice_get xs i
  slice_get-set_other [] p i x other = refl
  slice_get-set_other (y ∷ xs) zero zero x other = absurd (other refl)
  slice_get-set_other (y ∷ xs) zero (suc i) x other = refl
  slice_get-set_other (y ∷ xs) (suc p) zero x other = refl
  slice_get-set_other (y ∷ xs) (suc p) (suc i) x other = slice_get-set_other xs p i x (λ e. other (ap suc e))

  -- what is at a place of a list with a further element: one of the list, at its place, or the element at the end
  pub in_longer : (xs : List A) (last : A) (i : ℕ) (x : A) → slice_get (xs ++ last ∷ []) i ≡ Some x
      → (slice_get xs i ≡ Some x) ⊎ ((i ≡ length xs) × (x ≡ last))
  in_longer [] last zero x e = inr (refl, cc)
  in_longer [] last (suc i) x e = absurd (cc)
  in_longer (y ∷ xs) last zero x e = inl e
  in_longer (y ∷ xs) last (suc i) x e = step (in_longer xs last i x e)
    where
      step : ((slice_get xs i ≡ Some x) ⊎ ((i ≡ length xs) × (x ≡ last)))
          → (slice_get xs i ≡ Some x) ⊎ ((suc i ≡ length (y ∷ xs)) × (x ≡ last))
      step (inl f) = inl f
      step (inr f) = inr (omega arith, f.1)

  -- a list with a further element has the others at their places
  pub slice_get-longer : (xs : List A) (last : A) (i : ℕ) (x : A) → slice_get xs i ≡ Some x → slice_get (xs ++ last ∷ []) i ≡ Some x
  slice_get-longer [] last i x e = absurd (cc)
  slice_get-longer (y ∷ xs) last zero x e = e
  slice_get-longer (y ∷ xs) last (suc i) x e = slice_get-longer xs last i x e

  -- what is at a place of a list after a write at p: what was there, elsewhere, or the element written
  pub in_set : (xs : List A) (p : ℕ) (new : A) (i : ℕ) (x : A) → slice_get (slice_set xs p new) i ≡ Some x
      → ((i ≢ p) × (slice_get xs i ≡ Some x)) ⊎ ((i ≡ p) × (x ≡ new) × (p < length xs))
  in_set [] p new i x e = absurd (cc)
  in_set (y ∷ xs) zero new zero x e = inr (refl, cc, omega arith)
  in_set (y ∷ xs) zero new (suc i) x e = inl (λ same. omega arith, e)
  in_set (y ∷ xs) (suc p) new zero x e = inl (λ same. omega arith, e)
  in_set (y ∷ xs) (suc p) new (suc i) x e = step (in_set xs p new i x e)
    where
      step : ((i ≢ p) × (slice_get xs i ≡ Some x)) ⊎ ((i ≡ p) × (x ≡ new) × (p < length xs))
          → ((suc i ≢ suc p) × (slice_get xs i ≡ Some x)) ⊎ ((suc i ≡ suc p) × (x ≡ new) × (suc p < length (y ∷ xs)))
      step (inl f) = inl (λ same. f.0 (omega arith), f.1)
      step (inr f) = inr (ap suc f.0, f.1, omega arith)

  -- an element at another place is still there after a removal
  pub still_there : (xs : List A) (p i : ℕ) (x : A) → i ≢ p → slice_get xs i ≡ Some x → (j : ℕ) × (slice_get (remove xs p) j ≡ Some x)
  still_there [] p i x other e = absurd (cc)
  still_there (y ∷ xs) zero zero x other e = absurd (other refl)
  still_there (y ∷ xs) zero (suc i) x other e = (i, e)
  still_there (y ∷ xs) (suc p) zero x other e = (0, e)
  still_there (y ∷ xs) (suc p) (suc i) x other e = let w = still_there xs p i x (λ same. other (ap suc same)) e in (suc w.0, w.1)

  pub AtEach-longer : (P : A → Type 0) (xs : List A) (last : A) → AtEach P xs → P last → AtEach P (xs ++ last ∷ [])
  AtEach-longer P xs last each h i x e = step (in_longer xs last i x e)
    where
      step : (slice_get xs i ≡ Some x) ⊎ ((i ≡ length xs) × (x ≡ last)) → P x
      step (inl f) = each i x f
      step (inr f) = subst P (sym f.1) h

  pub AtEach-set : (P : A → Type 0) (xs : List A) (p : ℕ) (new : A) → AtEach P xs → P new → AtEach P (slice_set xs p new)
  AtEach-set P xs p new each h i x e = step (in_set xs p new i x e)
    where
      step : ((i ≢ p) × (slice_get xs i ≡ Some x)) ⊎ ((i ≡ p) × (x ≡ new) × (p < length xs)) → P x
      step (inl f) = each i x f.1
      step (inr f) = subst P (sym f.1) h

  pub AtEach-remove : (P : A → Type 0) (xs : List A) (p : ℕ) → AtEach P xs → AtEach P (remove xs p)
  AtEach-remove P xs p each i x e = each (place_before p i) x (sym (slice_get-remove xs p i) ∙ e)

  module _ {K : Type 0} (key : A → K) where
    pub Differ-longer : (xs : List A) (last : A) → Differ key xs → ((i : ℕ) (x : A) → slice_get xs i ≡ Some x → key x ≢ key last)
        → Differ key (xs ++ last ∷ [])
    Differ-longer xs last differ new i j a b at_i at_j same = step (in_longer xs last i a at_i) (in_longer xs last j b at_j)
      where
        step : (slice_get xs i ≡ Some a) ⊎ ((i ≡ length xs) × (a ≡ last)) → (slice_get xs j ≡ Some b) ⊎ ((j ≡ length xs) × (b ≡ last))
            → i ≡ j
        step (inl f) (inl g) = differ i j a b f g same
        step (inl f) (inr g) = absurd (new i a f (same ∙ ap key g.1))
        step (inr f) (inl g) = absurd (new j b g (sym same ∙ ap key f.1))
        step (inr f) (inr g) = f.0 ∙ sym g.0

    -- a write that leaves the key
    pub Differ-set : (xs : List A) (p : ℕ) (old new : A) → slice_get xs p ≡ Some old → key new ≡ key old → Differ key xs
        → Differ key (slice_set xs p new)
    Differ-set xs p old new was same_key differ i j a b at_i at_j same = step (in_set xs p new i a at_i) (in_set xs p new j b at_j)
      where
        step : ((i ≢ p) × (slice_get xs i ≡ Some a)) ⊎ ((i ≡ p) × (a ≡ new) × (p < length xs))
            → ((j ≢ p) × (slice_get xs j ≡ Some b)) ⊎ ((j ≡ p) × (b ≡ new) × (p < length xs)) → i ≡ j
        step (inl f) (inl g) = differ i j a b f.1 g.1 same
        step (inl f) (inr g) = differ i p a old f.1 was (same ∙ ap key g.1 ∙ same_key) ∙ sym g.0
        step (inr f) (inl g) = f.0 ∙ sym (differ j p b old g.1 was (sym same ∙ ap key f.1 ∙ same_key))
        step (inr f) (inr g) = f.0 ∙ sym g.0

    pub Differ-remove : (xs : List A) (p : ℕ) → Differ key xs → Differ key (remove xs p)
    Differ-remove xs p differ i j a b at_i at_j same =
        same_place_before p i j
        (differ (place_before p i) (place_before p j) a b (sym (slice_get-remove xs p i) ∙ at_i) (sym (slice_get-remove xs p j) ∙ at_j) same)

  module _ (test : A → Bool) where
    position_from-found : (n : ℕ) (xs : List A) (i : ℕ) → position_from test n xs ≡ Some i
        → (j : ℕ) × (x : A) × (i ≡ n + j) × (slice_get xs j ≡ Some x) × (test x ≡ true)
    position_from-found n [] i e = absurd (cc)
    position_from-found n (x ∷ xs) i e = step (test x) refl (position_from-found (n + 1) xs i) e
      where
        step : (b : Bool) → test x ≡ b
            → (position_from test (n + 1) xs ≡ Some i → (j : ℕ) × (y : A) × (i ≡ n + 1 + j) × (slice_get xs j ≡ Some y) × (test y ≡ true))
            → cond b (Some n) (position_from test (n + 1) xs) ≡ Some i
            → (j : ℕ) × (y : A) × (i ≡ n + j) × (slice_get (x ∷ xs) j ≡ Some y) × (test y ≡ true)
        step true passes rest f = (0, x, same_number f, refl, passes)
          where
            same_number : Some n ≡ Some i → i ≡ n + 0
            same_number f = let g : n ≡ i = cc in omega arith
        step false fails rest f = later (rest f)
          where
            later : (j : ℕ) × (y : A) × (i ≡ n + 1 + j) × (slice_get xs j ≡ Some y) × (test y ≡ true)
                → (j : ℕ) × (y : A) × (i ≡ n + j) × (slice_get (x ∷ xs) j ≡ Some y) × (test y ≡ true)
            later w = (suc w.0, w.1, omega arith, w.3, w.4)

    -- it is found at its place, and passes
    pub position-found : (xs : List A) (i : ℕ) → position_from test 0 xs ≡ Some i → (x : A) × (slice_get xs i ≡ Some x) × (test x ≡ true)
    position-found xs i e = step (position_from-found 0 xs i e)
      where
        step : (j : ℕ) × (x : A) × (i ≡ 0 + j) × (slice_get xs j ≡ Some x) × (test x ≡ true)
            → (x : A) × (slice_get xs i ≡ Some x) × (test x ≡ true)
        step w = let same : i ≡ w.0 = omega arith in (w.1, ap (slice_get xs) same ∙ w.3, w.4)

    position_from-none : (n : ℕ) (xs : List A) (i : ℕ) (x : A) → position_from test n xs ≡ None → slice_get xs i ≡ Some x → test x ≡ false
    position_from-none n [] i x e at = absurd (cc)
    position_from-none n (y ∷ xs) i x e at = step (test y) refl (λ k. position_from-none (n + 1) xs k x) e i at
      where
        step : (b : Bool) → test y ≡ b → ((k : ℕ) → position_from test (n + 1) xs ≡ None → slice_get xs k ≡ Some x → test x ≡ false)
            → cond b (Some n) (position_from test (n + 1) xs) ≡ None
            → (i : ℕ) → slice_get (y ∷ xs) i ≡ Some x → test x ≡ false
        step true passes rest f i at = absurd (cc)
        step false fails rest f zero at = let same : y ≡ x = cc in ap test (sym same) ∙ fails
        step false fails rest f (suc i) at = rest i f at

    -- where none is found, none passes
    pub position-none : (xs : List A) (i : ℕ) (x : A) → position_from test 0 xs ≡ None → slice_get xs i ≡ Some x → test x ≡ false
    position-none xs i x e at = position_from-none 0 xs i x e at

    -- where one passes, one is found
    pub position-some : (xs : List A) (i : ℕ) (x : A) → slice_get xs i ≡ Some x → test x ≡ true
        → (j : ℕ) × (position_from test 0 xs ≡ Some j)
    position-some xs i x at passes = step (position_from test 0 xs) refl
      where
        step : (r : Option ℕ) → position_from test 0 xs ≡ r → (j : ℕ) × (position_from test 0 xs ≡ Some j)
        step None e = absurd (true≢false (sym passes ∙ position-none xs i x e at))
        step (Some j) e = (j, e)
