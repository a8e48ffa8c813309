-- One more item behind those that were written.
use Rattle.std.proofs.Common.{◌≡◌, ℕ, ◌+◌, ◌<◌, List, [], ◌∷◌, ◌++◌, length, take, get_or, sym, ap, ◌∙◌, subst}
use Rattle.std.specs.List.{AllByRecursion}
use Rattle.std.proofs.lemmas.List.{take_more}
use Rattle.backup_index.specs.FreshLaws.{each_push}

pub one_fits : {V : Type 0} (P : V → Type 0) (xs : List V) (i : ℕ) (x d : V) → i < length xs → x ≡ get_or xs i d → AllByRecursion P (take i xs) → P x → AllByRecursion P (take (i + 1) xs)
one_fits P xs i x d within is before here =
    subst (AllByRecursion P) (ap (λ r. take i xs ++ r ∷ []) is ∙ sym (take_more xs i d within)) (each_push P (take i xs) x before here)

pub each_append : {V : Type 0} (P : V → Type 0) (xs ys : List V) → AllByRecursion P xs → AllByRecursion P ys → AllByRecursion P (xs ++ ys)
each_append P [] ys all more = more
each_append P (x ∷ xs) ys all more = (all.0, each_append P xs ys all.1 more)
