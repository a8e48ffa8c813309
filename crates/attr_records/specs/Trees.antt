-- Trees: lists of paths with their nodes, in the order of the paths. The node type is any X.
--     node_at, with_node, without      look-up, put and removal of a path and of all below it
--     IsTree is_dir tree      the paths are in order, and the parent of each is the root or a Dir of the tree
--     broken_put is_dir is_large tree path node      the first rule that a put breaks
use Rattle.std.specs.Prelude.{◌≡◌, ℕ, nat_le, Bool, true, false, not, ◌&&◌, List, ◌∷◌, ◌++◌, length, Option, Some, None, is_some, if◌then◌else◌}
use Rattle.std.specs.FinMap.Entries.{find, put, where_key}
use Rattle.attr_records.specs.declared.trees.PutRule.{PutRule}
use Rattle.attr_records.specs.declared.trees.PutRule.TheVariants.{NoParent, IsDirectory, TooManyEntries, FileTooLarge}
use Rattle.attr_records.specs.Paths.{path_cmp, parent, is_within}
use Rattle.ordered_lists.specs.Order.{IsInOrder}

module _ {X : Type 0} where
  -- the node at a path
  abbrev pub node_at : List (List ℕ × X) → List ℕ → Option X
  node_at tree path = find path_cmp path tree

  -- the tree with a node at a path
  abbrev pub with_node : List (List ℕ × X) → List ℕ → X → List (List ℕ × X)
  with_node tree path node = put path_cmp path node tree

  -- the tree without a path and all below it
  abbrev pub without : List (List ℕ × X) → List ℕ → List (List ℕ × X)
  without tree path = where_key path_cmp (λ p. not (is_within path p)) tree

  module _ (is_dir : X → Bool) where
    -- a Dir is found
    abbrev pub is_dir_found : Option X → Bool
    is_dir_found None = false
    is_dir_found (Some node) = is_dir node

    abbrev pub is_dir_at : List (List ℕ × X) → List ℕ → Bool
    is_dir_at tree path = is_dir_found (node_at tree path)

    -- what a path lies in is the root or a Dir of the tree
    abbrev pub is_parent_in : List (List ℕ × X) → Option (List ℕ) → Bool
    is_parent_in tree None = true
    is_parent_in tree (Some directory) = is_dir_at tree directory

    pub record IsTree (tree : List (List ℕ × X)) : Type 0 where
      pub in_order : IsInOrder path_cmp tree
      pub parents : (directory rest : List ℕ) → is_some (node_at tree (directory ++ 47 ∷ rest)) ≡ true → is_dir_at tree directory ≡ true

    -- the first rule that a put at a path breaks, of a Dir or another node, too large or not
    abbrev pub broken_rule : List (List ℕ × X) → List ℕ → (dir large : Bool) → Option PutRule
    broken_rule tree path dir large =
        if not (is_parent_in tree (parent path)) then Some NoParent
        else (if is_dir_at tree path && not dir then Some IsDirectory
        else (if nat_le 1048576 (length tree) && not (is_some (node_at tree path)) then Some TooManyEntries
        else (if large then Some FileTooLarge
        else None)))

    -- the first rule that a put breaks
    abbrev pub broken_put : (X → Bool) → List (List ℕ × X) → List ℕ → X → Option PutRule
    broken_put is_large tree path node = broken_rule tree path (is_dir node) (is_large node)
