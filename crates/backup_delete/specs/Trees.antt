-- Backups, the oldest first, as lines and tables side by side: the tree of a line filled is its table, that of another the
-- next newer tree, viewed through its table.
--     tree_of lines tables      the tree of the first of them
--     is_gone numbers number      the number is among those that are deleted
--     AreSorted numbers sorted      the same numbers in their order
use Rattle.std.specs.Prelude.{◌≡◌, ◌<◌, ◌≤◌, ℕ, ◌==◌, Bool, true, false, not, ◌&&◌, List, [], ◌∷◌, drop, if◌then◌else◌}
use Rattle.std.specs.List.{list_any}
use Rattle.std.specs.List.Sorted.{IsPermutation, IsNonDecreasing}
use Rattle.backup_rules.specs.declared.lines.Line.{Line}
use Rattle.merge_view.specs.Views.{Rows, view}
use Rattle.ref_counts.specs.Stored.{Backup}

-- the tree of the first backup
abbrev pub tree_of : List Line → List Rows → Rows
tree_of [] tables = []
tree_of (line ∷ lines) [] = []
tree_of (line ∷ lines) (table ∷ tables) = if line.filled then table else view (tree_of lines tables) table

-- the first backup is filled
abbrev pub is_first_filled : List Line → Bool
is_first_filled [] = false
is_first_filled (line ∷ lines) = line.filled

-- none of the backups from an index up to another is filled
abbrev pub AreUnfilled : List Line → ℕ → ℕ → Type 0
AreUnfilled lines index next = (i : ℕ) → index ≤ i → i < next → is_first_filled (drop i lines) ≡ false

-- the backups of lines and trees
abbrev pub backups : List Line → List Rows → List Backup
backups [] trees = []
backups (line ∷ lines) [] = []
backups (line ∷ lines) (tree ∷ trees) = record { filled = line.filled; rows = tree } ∷ backups lines trees

-- the number is among those that are deleted
abbrev pub is_gone : List ℕ → ℕ → Bool
is_gone numbers number = list_any (λ other. other == number) numbers

-- the same numbers in their order
pub record AreSorted (numbers sorted : List ℕ) : Type 0 where
  pub same : IsPermutation numbers sorted
  pub rise : IsNonDecreasing sorted

-- all of the backups are deleted
abbrev pub are_gone : List ℕ → List Line → Bool
are_gone numbers [] = true
are_gone numbers (line ∷ lines) = is_gone numbers line.number && are_gone numbers lines

-- the next newer backup is there and is deleted
abbrev pub is_next_gone : List ℕ → List Line → Bool
is_next_gone numbers [] = false
is_next_gone numbers (next ∷ newer) = is_gone numbers next.number

-- its table is relative to a backup that is deleted
abbrev pub needs_fold : List ℕ → Line → List Line → Bool
needs_fold numbers line newer = not line.filled && is_next_gone numbers newer
