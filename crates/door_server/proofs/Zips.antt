-- Two lists, place by place.
use Rattle.std.specs.Prelude.{◌<◌, slice_index_or}
use Rattle.std.specs.List.{AllZip}
use Rattle.std.proofs.Common.{◌≡◌, ℕ, suc, List, [], ◌∷◌, length, subst, arith}

pub zip_at : {X : Type 0} (R : X → X → Type 0) (xs ys : List X) → length ys ≡ length xs
    → ((i : ℕ) (d : X) → i < length xs → R (slice_index_or xs i d) (slice_index_or ys i d)) → AllZip R xs ys
zip_at R [] [] e at = tt
zip_at R [] (y ∷ ys) e at = absurd (omega (arith, e))
zip_at R (x ∷ xs) [] e at = absurd (omega (arith, e))
zip_at R (x ∷ xs) (y ∷ ys) e at =
    (at 0 x (omega arith), zip_at R xs ys (omega (arith, e)) (λ i d less. at (suc i) d (omega (arith, less))))

pub same_both : {X : Type 0} (R : X → X → Type 0) (x y a b : X) → a ≡ x → b ≡ y → R a b → R x y
same_both R x y a b e f holds = subst (λ v. R v y) e (subst (λ w. R a w) f holds)
