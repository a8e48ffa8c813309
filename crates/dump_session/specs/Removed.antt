-- Removed paths: each takes away itself and all below it.
--     is_gone removed path      one of them takes the path away
--     IsApart removed      none of them lies within another
use Rattle.std.specs.Prelude.{◌≡◌, ℕ, Bool, true, List, is_some}
use Rattle.std.specs.List.{list_any}
use Rattle.attr_records.specs.Paths.{is_within}
use Rattle.attr_records.specs.Trees.{node_at, with_node, without}

module _ {X : Type 0} where
  -- the path is one of the removed ones
  abbrev pub is_removed : List (List ℕ × X) → List ℕ → Bool
  is_removed removed path = is_some (node_at removed path)

  -- one of the removed paths takes the path away
  abbrev pub is_gone : List (List ℕ × X) → List ℕ → Bool
  is_gone removed path = list_any (λ entry. is_within entry.0 path) removed

  -- no removed path lies within another
  pub record IsApart (removed : List (List ℕ × X)) : Type 0 where
    pub same : (a b : List ℕ) → is_removed removed a ≡ true → is_removed removed b ≡ true → is_within a b ≡ true → a ≡ b

  -- the removed paths with one more, which takes the place of those within it
  abbrev pub with_removed : List (List ℕ × X) → List ℕ → X → List (List ℕ × X)
  with_removed removed path mark = with_node (without removed path) path mark
