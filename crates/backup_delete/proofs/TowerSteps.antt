-- Blocks of tables: one block more, two blocks as one, and what is at a path.
use Rattle.std.specs.Prelude.{◌≡◌, ℕ, ◌+◌, ◌-◌, ◌<◌, ◌≤◌, true, false, not, List, [], ◌∷◌, ◌++◌, length, drop, take}
use Rattle.std.proofs.Common.{refl, sym, ap, ◌∙◌, subst, get_or, arith}
use Rattle.std.proofs.lemmas.List.{length-drop, take_more, take_all}
use Rattle.ordered_lists.specs.Order.{IsInOrder}
use Rattle.attr_records.specs.Paths.{path_cmp}
use Rattle.backup_rules.specs.declared.lines.Line.{Line}
use Rattle.attr_records.specs.Trees.{node_at}
use Rattle.merge_view.specs.Views.{Rows, laid, view, stacked, trimmed}
use Rattle.merge_view.specs.ViewLaws.{node_at-view}
use Rattle.merge_view.specs.Tables.{AllInOrder}
use Rattle.merge_view.specs.TableLaws.{stacked-none}
use Rattle.backup_delete.specs.declared.tower.Block.{Block}
use Rattle.backup_delete.specs.declared.tower.Tower.{Tower}
use Rattle.backup_delete.specs.Trees.{tree_of, is_first_filled}
use Rattle.backup_delete.specs.RunFolds.{resolved, remaining, goes_on}
use Rattle.backup_delete.specs.RunFoldsLaws.{resolved_in_order, trimmed-view_through, trimmed-none}
use Rattle.backup_delete.specs.Towers.{IsBlock, IsStack, IsBase, IsTower}
use Rattle.backup_delete.proofs.RunSteps.{from_order, run_halves}

-- a slice is its front and its last
pub front_and_last : (blocks : List Block) (block : Block) → 0 < length blocks → block ≡ get_or blocks (length blocks - 1) block
    → blocks ≡ take (length blocks - 1) blocks ++ block ∷ []
front_and_last blocks block some is =
    let less : length blocks - 1 < length blocks = omega (arith, some) in
    let all : length blocks ≤ (length blocks - 1) + 1 = omega (arith, some) in
    sym (take_all ((length blocks - 1) + 1) blocks all) ∙ take_more blocks (length blocks - 1) block less
    ∙ ap (λ b. take (length blocks - 1) blocks ++ b ∷ []) (sym is)

-- ---- the base

pub stop_base : (lines : List Line) (base : ℕ) (entries : Rows) → IsBase lines base → goes_on entries (drop base lines) ≡ false
stop_base lines base entries is = step entries (drop base lines) (length-drop base lines) is.filled
  where
    step : (es : Rows) (ls : List Line) → length ls ≡ length lines - base → (base < length lines → is_first_filled ls ≡ true) → goes_on es ls ≡ false
    step es [] n filled = refl
    step [] (line ∷ ls) n filled = refl
    step (row ∷ es) (line ∷ ls) n filled = ap not (filled (omega (arith, n)))

-- no entries change nothing
pub no_entries : (tree entries made : Rows) → made ≡ [] → entries ≡ [] → made ≡ trimmed tree entries
no_entries tree entries made made_is none = made_is ∙ sym (trimmed-none tree) ∙ ap (trimmed tree) (sym none)

module _ (lines : List Line) (tables : List Rows) where
  abbrev tree_from : ℕ → Rows
  tree_from n = tree_of (drop n lines) (drop n tables)

  -- ---- one block more or less

  -- what the last block stands on
  pub record IsSplit (base : ℕ) (blocks : List Block) (block : Block) (start : ℕ) : Type 0 where
    pub front : IsStack lines tables base blocks block.end
    pub last : IsBlock lines tables block.end block
    pub starts : block.start ≡ start

  pub stack_more : (base : ℕ) (blocks : List Block) (block : Block) (end : ℕ) → IsStack lines tables base blocks end → IsBlock lines tables end block
      → IsStack lines tables base (blocks ++ block ∷ []) block.start
  stack_more base [] block end stack is = (record { ends = is.ends ∙ sym stack; seen = is.seen }, refl)
  stack_more base (first ∷ blocks) block end stack is = (stack.0, stack_more first.start blocks block end stack.1 is)

  pub stack_split : (base : ℕ) (blocks : List Block) (block : Block) (start : ℕ) → IsStack lines tables base (blocks ++ block ∷ []) start
      → IsSplit base blocks block start
  stack_split base [] block start stack =
      record { front = sym stack.0.ends; last = record { ends = refl; seen = stack.0.seen }; starts = stack.1 }
  stack_split base (first ∷ blocks) block start stack =
      let rest = stack_split first.start blocks block start stack.1 in
      record { front = (stack.0, rest.front); last = rest.last; starts = rest.starts }

  pub pushed : (base : ℕ) (old new : List Block) (block : Block) (end : ℕ) → new ≡ old ++ block ∷ [] → IsStack lines tables base old end
      → IsBlock lines tables end block → IsStack lines tables base new block.start
  pushed base old new block end is stack one =
      subst (λ (blocks : List Block). IsStack lines tables base blocks block.start) (sym is) (stack_more base old block end stack one)

  -- the block goes into one with the last
  pub pushed_both : (base : ℕ) (old front new : List Block) (block other both : Block) (end : ℕ) → old ≡ front ++ other ∷ []
      → both.start ≡ block.start
      → (IsBlock lines tables other.start block → IsBlock lines tables other.end other → IsBlock lines tables other.end both)
      → (IsStack lines tables base front other.end → IsBlock lines tables other.end both → IsStack lines tables base new both.start)
      → IsStack lines tables base old end → IsBlock lines tables end block → IsStack lines tables base new block.start
  pushed_both base old front new block other both end parts starts one rest stack is =
      let split = stack_split base front other end (subst (λ (blocks : List Block). IsStack lines tables base blocks end) parts stack) in
      subst (λ n. IsStack lines tables base new n) starts
      (rest split.front (one (record { ends = is.ends ∙ sym split.starts; seen = is.seen }) split.last))

  pub joined_is : (nearer farther : Block) (entries : Rows) (end : ℕ) → AllInOrder tables
      → ((tree : Rows) → IsInOrder path_cmp tree → view tree entries ≡ view (view tree farther.entries) nearer.entries)
      → IsBlock lines tables farther.start nearer → IsBlock lines tables end farther → tree_from nearer.start ≡ view (tree_from farther.end) entries
  joined_is nearer farther entries end all seen near far =
      run_halves lines tables nearer.start farther.start farther.end nearer.entries farther.entries entries all
      (near.seen ∙ ap (λ n. view (tree_from n) nearer.entries) near.ends) far.seen seen

  -- ---- towers

  pub stands_alone : (tower : Tower) (base : ℕ) → tower.base ≡ base → tower.blocks.items ≡ [] → base ≤ length lines
      → (base < length lines → is_first_filled (drop base lines) ≡ true) → IsTower lines tables base tower
  stands_alone tower base base_is none within filled = record {
    based = subst (λ n. IsBase lines n) (sym base_is) (record { within = within; filled = filled });
    stands = subst (λ (blocks : List Block). IsStack lines tables tower.base blocks base) (sym none) base_is;
  }

  -- ---- what is at a path

  pub split_of : (base start : ℕ) (blocks front : List Block) (block : Block) → blocks ≡ front ++ block ∷ []
      → IsStack lines tables base blocks start → IsSplit base front block start
  split_of base start blocks front block parts stack =
      stack_split base front block start (subst (λ (bs : List Block). IsStack lines tables base bs start) parts stack)

  -- by the nearest block, over the tree of its end
  pub node_over : (base start : ℕ) (front : List Block) (block : Block) (path : List ℕ) → AllInOrder tables → IsInOrder path_cmp block.entries
      → IsSplit base front block start
      → laid (node_at block.entries path) (node_at (tree_from block.end) path) ≡ node_at (tree_from start) path
  node_over base start front block path all order split =
      sym (node_at-view (tree_from block.end) block.entries (from_order lines tables block.end all) order path)
      ∙ ap (λ t. node_at t path) (sym split.last.seen) ∙ ap (λ n. node_at (tree_from n) path) split.starts

  -- ---- an index whose table has each path of the entries

  pub near_all : (index : ℕ) (near entries here later : Rows) → AllInOrder tables → IsInOrder path_cmp near → IsInOrder path_cmp entries
      → tree_from index ≡ view (tree_from (index + 1)) near → later ≡ remaining entries near → later ≡ [] → here ≡ resolved entries near
      → here ≡ trimmed (tree_from index) entries
  near_all index near entries here later all order entries_order seen later_is none here_is =
      here_is ∙ sym (stacked-none (resolved entries near) (resolved_in_order entries near entries_order order))
      ∙ ap (stacked (resolved entries near))
      (sym (trimmed-none (tree_from (index + 1))) ∙ ap (trimmed (tree_from (index + 1))) (sym none ∙ later_is))
      ∙ sym (trimmed-view_through (tree_from (index + 1)) near entries (from_order lines tables (index + 1) all) order entries_order)
      ∙ ap (λ t. trimmed t entries) (sym seen)
