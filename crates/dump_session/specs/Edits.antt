-- An open dump: a base that stays as it is, whatever its rows say, the removed paths, and the nodes that were put.
--     edited base removed puts      the tree that they show
use Rattle.std.specs.Prelude.{◌≡◌, ℕ, not, cond, List, length, Option, None}
use Rattle.std.specs.FinMap.Entries.{where_key}
use Rattle.attr_records.specs.Paths.{path_cmp}
use Rattle.ordered_lists.specs.Order.{IsInOrder}
use Rattle.attr_records.specs.Trees.{node_at}
use Rattle.attr_tables.specs.declared.records.Record.{Record}
use Rattle.merge_view.specs.Views.{Rows, HasNoMarks, view}
use Rattle.dump_session.specs.Removed.{is_gone, IsApart}

module _ {X : Type 0} where
  -- the rows that no removed path takes away
  abbrev pub outside : Rows → List (List ℕ × X) → Rows
  outside base removed = where_key path_cmp (λ path. not (is_gone removed path)) base

  -- the base without what is removed, and the nodes that were put over it
  abbrev pub edited : Rows → List (List ℕ × X) → Rows → Rows
  edited base removed puts = view (outside base removed) puts

  -- what a dump keeps of its parts
  pub record AreEdits (base : Rows) (removed : List (List ℕ × X)) (puts : Rows) (count : ℕ) : Type 0 where
    pub base_in_order : IsInOrder path_cmp base
    pub puts_in_order : IsInOrder path_cmp puts
    pub removed_in_order : IsInOrder path_cmp removed
    pub apart : IsApart removed
    pub no_marks : HasNoMarks puts
    pub count_is : count ≡ length (edited base removed puts)

  -- what the base has at a path that isn't gone
  abbrev pub left_at : Rows → List (List ℕ × X) → List ℕ → Option Record
  left_at base removed path = cond (not (is_gone removed path)) (node_at base path) None
