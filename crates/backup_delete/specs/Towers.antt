-- The tables from a backup up to the next filled one, laid over each other in blocks of neighbours, the farthest block first.
--     one_fold, folds      whether a backup stays and gets a new table, and how many do
--     IsBlock lines tables end block      the block ends there, and its entries lead from the tree there to that of its start
--     IsStack lines tables base blocks start      the blocks lead from a base to a start, each from where the one before it starts
--     IsBase lines base      a filled backup is there, or none is
--     IsTower lines tables start tower      the tower's blocks lead from its base to a start
--     HasReached lines tables index tower      the tower stands from its start on, which isn't before the index
--     MayStand lines tables index tower      the same, if there is a tower
use Rattle.std.specs.Prelude.{◌≡◌, ℕ, ◌+◌, ◌<◌, ◌≤◌, true, List, [], ◌∷◌, length, drop, Option, Some, None, if◌then◌else◌}
use Rattle.backup_rules.specs.declared.lines.Line.{Line}
use Rattle.merge_view.specs.Views.{Rows, view}
use Rattle.backup_delete.specs.declared.tower.Block.{Block}
use Rattle.backup_delete.specs.declared.tower.Tower.{Tower}
use Rattle.backup_delete.specs.Trees.{tree_of, is_first_filled, is_gone, needs_fold}

-- one, if a backup stays and gets a new table
abbrev pub one_fold : List ℕ → Line → List Line → ℕ
one_fold numbers line newer = if is_gone numbers line.number then 0 else (if needs_fold numbers line newer then 1 else 0)

-- how many backups stay and get a new table
abbrev pub folds : List ℕ → List Line → ℕ
folds numbers [] = 0
folds numbers (line ∷ lines) = one_fold numbers line lines + folds numbers lines

-- The block ends there, and the tree of its start is that of its end, viewed through its entries.
pub record IsBlock (lines : List Line) (tables : List Rows) (end : ℕ) (block : Block) : Type 0 where
  pub ends : block.end ≡ end
  pub seen : tree_of (drop block.start lines) (drop block.start tables) ≡ view (tree_of (drop block.end lines) (drop block.end tables)) block.entries

-- the blocks lead from a base to a start
abbrev pub IsStack : List Line → List Rows → ℕ → List Block → ℕ → Type 0
IsStack lines tables base [] start = base ≡ start
IsStack lines tables base (block ∷ blocks) start = IsBlock lines tables base block × IsStack lines tables block.start blocks start

-- A filled backup is there, or it is behind all.
pub record IsBase (lines : List Line) (base : ℕ) : Type 0 where
  pub within : base ≤ length lines
  pub filled : base < length lines → is_first_filled (drop base lines) ≡ true

-- The tower's blocks lead from its base to a start.
pub record IsTower (lines : List Line) (tables : List Rows) (start : ℕ) (tower : Tower) : Type 0 where
  pub based : IsBase lines tower.base
  pub stands : IsStack lines tables tower.base tower.blocks.items start

-- The tower stands for the tables from its start on, which isn't before the index.
pub record HasReached (lines : List Line) (tables : List Rows) (index : ℕ) (tower : Tower) : Type 0 where
  pub behind : index ≤ tower.start
  pub within : tower.start ≤ length lines
  pub stands : IsTower lines tables tower.start tower

-- the same, if there is a tower
abbrev pub MayStand : List Line → List Rows → ℕ → Option Tower → Type 0
MayStand lines tables index None = Unit {0}
MayStand lines tables index (Some tower) = HasReached lines tables index tower
