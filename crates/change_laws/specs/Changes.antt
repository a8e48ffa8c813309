-- What leads from an older tree to a newer one: removals, and then puts. The node type is any X.
--     topmost (lost_rows is_dir newer older)      the paths that are removed, with what stood there
--     changed_rows is_same newer older      the paths that are put, with what stands there
--     brought is_dir is_same newer older      the older tree after both
--     AreThere, AreAllowed      removals that each find their path; puts of which none breaks a rule
use Rattle.std.specs.Prelude.{◌≡◌, ℕ, Bool, true, false, not, List, [], ◌∷◌, Option, Some, None, is_some, if◌then◌else◌}
use Rattle.std.specs.FinMap.Entries.{where_key}
use Rattle.ordered_lists.specs.Merge.{merge}
use Rattle.attr_records.specs.Paths.{path_cmp, parent}
use Rattle.attr_records.specs.Trees.{node_at, with_node, without, broken_put}

-- both are Dirs, or neither is
abbrev pub alike : Bool → Bool → Bool
alike true b = b
alike false b = not b

module _ {X : Type 0} where
  -- ---- what is at a path

  -- the older node, if the newer tree has none there, or if one of the two is a Dir and the other isn't
  abbrev pub lost : (X → Bool) → Option X → Option X → Option X
  lost is_dir newer None = None
  lost is_dir None (Some older) = Some older
  lost is_dir (Some newer) (Some older) = if alike (is_dir newer) (is_dir older) then None else Some older

  -- the newer node, if the older tree has another there or none
  abbrev pub changed : (X → X → Bool) → Option X → Option X → Option X
  changed is_same None older = None
  changed is_same (Some newer) None = Some newer
  changed is_same (Some newer) (Some older) = if is_same newer older then None else Some newer

  -- ---- the rows of all paths

  abbrev pub lost_rows : (X → Bool) → List (List ℕ × X) → List (List ℕ × X) → List (List ℕ × X)
  lost_rows is_dir newer older = merge path_cmp (lost is_dir) newer older

  abbrev pub changed_rows : (X → X → Bool) → List (List ℕ × X) → List (List ℕ × X) → List (List ℕ × X)
  changed_rows is_same newer older = merge path_cmp (changed is_same) newer older

  -- the directory that a path lies in is among the rows
  abbrev pub lies_in : List (List ℕ × X) → Option (List ℕ) → Bool
  lies_in rows None = false
  lies_in rows (Some directory) = is_some (node_at rows directory)

  -- the rows whose directory isn't among them
  abbrev pub topmost : List (List ℕ × X) → List (List ℕ × X)
  topmost rows = where_key path_cmp (λ path. not (lies_in rows (parent path))) rows

  -- ---- one edit after the other

  -- the tree without these paths and all below them
  abbrev pub without_all : List (List ℕ × X) → List (List ℕ × X) → List (List ℕ × X)
  without_all [] tree = tree
  without_all (row ∷ rows) tree = without_all rows (without tree row.0)

  -- the tree with these nodes at their paths
  abbrev pub with_all : List (List ℕ × X) → List (List ℕ × X) → List (List ℕ × X)
  with_all [] tree = tree
  with_all (row ∷ rows) tree = with_all rows (with_node tree row.0 row.1)

  -- the older tree, after the removals and the puts
  abbrev pub brought : (X → Bool) → (X → X → Bool) → List (List ℕ × X) → List (List ℕ × X) → List (List ℕ × X)
  brought is_dir is_same newer older =
      with_all (changed_rows is_same newer older) (without_all (topmost (lost_rows is_dir newer older)) older)

  -- each removal finds its path
  abbrev pub AreThere : List (List ℕ × X) → List (List ℕ × X) → Type 0
  AreThere [] tree = Unit {0}
  AreThere (row ∷ rows) tree = (is_some (node_at tree row.0) ≡ true) × AreThere rows (without tree row.0)

  -- no put breaks a rule
  abbrev pub AreAllowed : (X → Bool) → (X → Bool) → List (List ℕ × X) → List (List ℕ × X) → Type 0
  AreAllowed is_dir is_large [] tree = Unit {0}
  AreAllowed is_dir is_large (row ∷ rows) tree =
      (broken_put is_dir is_large tree row.0 row.1 ≡ None) × AreAllowed is_dir is_large rows (with_node tree row.0 row.1)
