-- The word behind the program's name.
use Rattle.std.specs.Prelude.{bytes_eq, codes, map}
use Rattle.std.proofs.Common.{◌≡◌, ℕ, true, nat_lt, List, [], ◌∷◌, length, slice_index_or, ap}
use Rattle.command_line.specs.Pushes.{is_push}

pub second_is : {W : Type 0} (f : W → List ℕ) (words : List W) (word : W) → true ≡ nat_lt 1 (length words)
    → word ≡ slice_index_or words 1 word → bytes_eq (f word) (codes "push-folder") ≡ is_push (map f words)
second_is f [] word within is = absurd cc
second_is f (a ∷ []) word within is = absurd cc
second_is f (a ∷ b ∷ more) word within is = ap (λ w. bytes_eq (f w) (codes "push-folder")) is
