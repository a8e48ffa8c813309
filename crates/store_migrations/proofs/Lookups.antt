-- What is read at a place of a slice is what its list has there.
use Rattle.std.specs.Prelude.{◌≡◌, ◌<◌, ◌==◌, ℕ, zero, suc, true, false, List, [], ◌∷◌, length, Some, get_or, slice_get}
use Rattle.std.proofs.Common.{refl, sym, ap, ◌∙◌, arith}
use Rattle.std.proofs.lemmas.Bool.{true≢false, eqb-true}
use Rattle.std.proofs.lemmas.Option.{slice_get_read}

pub index_there : {A : Type 0} (xs slice : List A) (i : ℕ) (x : A) → i < length xs → slice ≡ xs → x ≡ get_or slice i x
    → slice_get xs i ≡ Some x
index_there xs slice i x within same is = slice_get_read xs (length xs) i x refl within (is ∙ ap (λ l. get_or l i x) same)

-- there is an element at each place within
pub within_there : {A : Type 0} (xs : List A) (i : ℕ) → i < length xs → (x : A) × (slice_get xs i ≡ Some x)
within_there [] i within = absurd (omega (arith, within))
within_there (x ∷ xs) zero within = (x, refl)
within_there (x ∷ xs) (suc i) within = within_there xs i (omega (arith, within))

-- an empty slice, and one that isn't
pub none_there : {A : Type 0} (xs : List A) → (length xs == 0) ≡ true → xs ≡ []
none_there [] is = refl
none_there (x ∷ xs) is = absurd (let n = eqb-true (length (x ∷ xs)) 0 is in omega (arith, n))

pub some_there : {A : Type 0} (xs : List A) → (length xs == 0) ≡ false → xs ≡ [] → ⊥
some_there xs is none = true≢false (sym (ap (λ (l : List _). length l == 0) none) ∙ is)
