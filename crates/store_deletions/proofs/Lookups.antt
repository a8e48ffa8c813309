-- What is read at a place of a slice is what its list has there.
use Rattle.std.specs.Prelude.{◌≡◌, ◌<◌, ◌==◌, ℕ, true, false, List, [], ◌∷◌, length, Some, Result, Ok, get_or, slice_get}
use Rattle.std.proofs.Common.{refl, sym, ap, ◌∙◌, arith}
use Rattle.std.proofs.lemmas.Bool.{true≢false, eqb-true}
use Rattle.std.proofs.lemmas.Option.{slice_get_read}
use Rattle.office_model.specs.declared.answer.Answer.{Answer}
use Rattle.office_model.specs.declared.answer.Answer.TheVariants.{Expired}
use Rattle.office_model.specs.declared.refusal.Refusal.{Refusal}

pub index_there : {A : Type 0} (xs slice : List A) (i : ℕ) (x : A) → slice ≡ xs → i < length xs → x ≡ get_or slice i x
    → slice_get xs i ≡ Some x
index_there xs slice i x same within is = slice_get_read xs (length xs) i x refl within (is ∙ ap (λ l. get_or l i x) same)

-- an empty slice, and one that isn't
pub none_there : {A : Type 0} (xs : List A) → (length xs == 0) ≡ true → xs ≡ []
none_there [] is = refl
none_there (x ∷ xs) is = absurd (let n = eqb-true (length (x ∷ xs)) 0 is in omega (arith, n))

pub some_there : {A : Type 0} (xs : List A) → (length xs == 0) ≡ false → xs ≡ [] → ⊥
some_there xs is none = true≢false (sym (ap (λ (l : List _). length l == 0) none) ∙ is)

-- a slice that isn't empty isn't answered by none
pub some_expired : {A : Type 0} (xs : List A) (reply : Result Answer Refusal) → (length xs == 0) ≡ false → reply ≡ Ok (Expired (length xs))
    → reply ≡ Ok (Expired 0) → ⊥
some_expired xs reply some is none =
    let zero : length xs ≡ 0 = cc (is, none) in
    true≢false (sym (ap (λ (n : ℕ). n == 0) zero) ∙ some)
