-- Offsets of what is wrong, one thing after another.
use Rattle.std.specs.Prelude.{◌≡◌, ℕ, ◌+◌, ◌*◌, ◌<◌, Bool, true, false, List, [], ◌∷◌, ◌++◌, length, take, if◌then◌else◌}
use Rattle.std.proofs.Common.{refl, sym, ap, subst, ◌∙◌, append_assoc, get_or, arith}
use Rattle.std.proofs.lemmas.List.{append-nil, take_more, length-take-le}
use Rattle.std.proofs.Math.Nat.{suc-mul, zero-mul}
use Rattle.certificate_judge.specs.declared.tally.Tally.{Tally}
use Rattle.certificate_judge.specs.Faults.{wrong}
use Rattle.certificate_judge.specs.Judging.{IsTally}

module _ {A : Type 0} (is_wrong : A → Bool) (size : ℕ) where
  joined : (b : Bool) (at : ℕ) (us vs : List ℕ) → (if b then at ∷ us ++ vs else us ++ vs) ≡ (if b then at ∷ us else us) ++ vs
  joined true at us vs = refl
  joined false at us vs = refl

  pub wrong-append : (at : ℕ) (xs ys : List A) → wrong is_wrong size at (xs ++ ys) ≡ wrong is_wrong size at xs ++ wrong is_wrong size (at + length xs * size) ys
  wrong-append at [] ys = ap (λ (n : ℕ). wrong is_wrong size n ys) (at_first at)
    where
      at_first : (at : ℕ) → at ≡ at + 0 * size
      at_first at = omega (arith, zero-mul size)
  wrong-append at (x ∷ xs) ys =
      let rest = wrong-append (at + size) xs ys in
      let here : at + size + length xs * size ≡ at + length (x ∷ xs) * size = omega (arith, suc-mul (length xs) size) in
      ap (λ (l : List ℕ). if is_wrong x then at ∷ l else l) (rest ∙ ap (λ (n : ℕ). wrong is_wrong size (at + size) xs ++ wrong is_wrong size n ys) here)
      ∙ joined (is_wrong x) at (wrong is_wrong size (at + size) xs) (wrong is_wrong size (at + length (x ∷ xs) * size) ys)

  after : (b : Bool) (before : List ℕ) (at : ℕ) → (if b then before ++ at ∷ [] else before) ≡ before ++ (if b then at ∷ [] else [])
  after true before at = refl
  after false before at = sym (append-nil before)

  -- one thing more of a list
  pub wrong_more : (offsets : List ℕ) (at i : ℕ) (xs : List A) (d : A) → i < length xs
      → (if is_wrong (get_or xs i d) then (offsets ++ wrong is_wrong size at (take i xs)) ++ (at + i * size) ∷ [] else offsets ++ wrong is_wrong size at (take i xs))
      ≡ offsets ++ wrong is_wrong size at (take (i + 1) xs)
  wrong_more offsets at i xs d within =
      let len : length (take i xs) ≡ i = length-take-le i xs (omega arith) in
      after (is_wrong (get_or xs i d)) (offsets ++ wrong is_wrong size at (take i xs)) (at + i * size)
      ∙ append_assoc offsets (wrong is_wrong size at (take i xs)) (if is_wrong (get_or xs i d) then (at + i * size) ∷ [] else [])
      ∙ ap (λ (l : List ℕ). offsets ++ l)
      (ap (λ (n : ℕ). wrong is_wrong size at (take i xs) ++ (if is_wrong (get_or xs i d) then (at + n * size) ∷ [] else [])) (sym len)
      ∙ sym (wrong-append at (take i xs) (get_or xs i d ∷ []))
      ∙ ap (wrong is_wrong size at) (sym (take_more xs i d within)))

  -- a loop's step
  pub noted_more : (offsets : List ℕ) (at i here : ℕ) (xs : List A) (d : A) (b : Bool) (now new : Tally) → i < length xs
      → ((os : List ℕ) → IsTally os now → IsTally (if b then os ++ here ∷ [] else os) new) → b ≡ is_wrong (get_or xs i d) → here ≡ at + i * size
      → IsTally (offsets ++ wrong is_wrong size at (take i xs)) now
      → IsTally (offsets ++ wrong is_wrong size at (take (i + 1) xs)) new
  noted_more offsets at i here xs d b now new within clause is place so_far =
      subst (λ (os : List ℕ). IsTally os new)
      (ap (λ (t : Bool). if t then (offsets ++ wrong is_wrong size at (take i xs)) ++ here ∷ [] else offsets ++ wrong is_wrong size at (take i xs)) is
      ∙ ap (λ (n : ℕ). if is_wrong (get_or xs i d) then (offsets ++ wrong is_wrong size at (take i xs)) ++ n ∷ [] else offsets ++ wrong is_wrong size at (take i xs)) place
      ∙ wrong_more offsets at i xs d within)
      (clause (offsets ++ wrong is_wrong size at (take i xs)) so_far)
