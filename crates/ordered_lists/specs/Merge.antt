-- The merge of two lists in the order of their keys, put together key by key.
--     merge R f xs ys      the entries that f gives of what the two have at each key
use Rattle.std.specs.Prelude.{List, [], ◌∷◌, Option, Some, None}
use Rattle.std.specs.declared.cmp.Ordering.{Ordering}
use Rattle.std.specs.Option.{option_map}
use Rattle.std.specs.Ordering.{match_ordering}

module _ {K Z : Type 0} where
  -- an entry of the key, if there is a value, before the others
  abbrev pub entry_then : K → Option Z → List (K × Z) → List (K × Z)
  entry_then key None rest = rest
  entry_then key (Some z) rest = (key, z) ∷ rest

-- what f gives of the entries at a key, under that key
abbrev pub entry_at : {K X Y Z : Type 0} → (Option X → Option Y → Option Z) → Option (K × X) → Option (K × Y) → Option (K × Z)
entry_at f None None = None
entry_at f None (Some y) = option_map (λ z. (y.0, z)) (f None (Some y.1))
entry_at f (Some x) y = option_map (λ z. (x.0, z)) (f (Some x.1) (option_map (λ e. e.1) y))

module _ {K X Y Z : Type 0} (R : K → K → Ordering) (f : Option X → Option Y → Option Z) where
  -- the entries of the right list alone
  abbrev pub right_only : List (K × Y) → List (K × Z)
  right_only [] = []
  right_only (y ∷ ys) = entry_then y.0 (f None (Some y.1)) (right_only ys)

  -- a left entry among the right ones; `left` merges the further left entries with what is left on the right
  abbrev pub merge_at : K × X → (List (K × Y) → List (K × Z)) → List (K × Y) → List (K × Z)
  merge_at x left [] = entry_then x.0 (f (Some x.1) None) (left [])
  merge_at x left (y ∷ ys) =
      match_ordering (R x.0 y.0)
      (entry_then x.0 (f (Some x.1) None) (left (y ∷ ys)))
      (entry_then x.0 (f (Some x.1) (Some y.1)) (left ys))
      (entry_then y.0 (f None (Some y.1)) (merge_at x left ys))

  -- what f gives at each key of two lists in order
  abbrev pub merge : List (K × X) → List (K × Y) → List (K × Z)
  merge [] ys = right_only ys
  merge (x ∷ xs) ys = merge_at x (merge xs) ys
