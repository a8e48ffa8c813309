-- What the tables say of a path is what their whole has there, since each of them is in order.
use Rattle.std.proofs.Common.{◌≡◌, ◌≢◌, ◌≤◌, ℕ, List, length, drop, false, Option, Some, None, IfSome, Bor, sym, ap, ◌∙◌, subst, arith}
use Rattle.std.specs.Option.{option_copied}
use Rattle.std.proofs.lemmas.List.{drop_all}
use Rattle.attr_records.specs.Trees.{node_at}
use Rattle.attr_tables.specs.declared.records.Record.{Record}
use Rattle.attr_tables.specs.declared.records.Record.TheVariants.{Deleted}
use Rattle.merge_view.specs.Views.{Rows, is_mark, is_marked}
use Rattle.merge_view.specs.ViewLaws.{unmarked}
use Rattle.merge_view.specs.Tables.{AllInOrder, told, whole}
use Rattle.merge_view.specs.TableLaws.{node_at-whole, IsWhole-whole}
use Rattle.merge_view.proofs.views.lookup.Goals as goal

all_in_order : (tables : List Rows) (i : ℕ) → length tables ≤ i → (AllInOrder (drop i tables) → AllInOrder tables) → AllInOrder tables
all_in_order tables i end order = order (subst AllInOrder (sym (drop_all i tables end)) tt)

found_told : (tables : List Rows) (path : List ℕ) (i : ℕ) (found : Option Record) → length tables ≤ i
    → told (drop i tables) path found ≡ told tables path None → (AllInOrder (drop i tables) → AllInOrder tables)
    → found ≡ node_at (whole tables) path
found_told tables path i found end so_far order =
    ap (λ rest. told rest path found) (sym (drop_all i tables end)) ∙ so_far
    ∙ sym (node_at-whole tables (all_in_order tables i end order) path)

no_mark : (found : Option (Bor Record)) → is_marked (option_copied found) ≡ false → IfSome found (λ entry. entry.now ≢ Deleted)
no_mark None clean = tt
no_mark (Some entry) clean = λ is. not_clean (ap is_mark (sym is) ∙ clean)
  where
    not_clean : is_mark Deleted ≡ false → ⊥
    not_clean e = cc

pub returns-clause-value : goal.returns-clause-value
returns-clause-value c =
    found_told c.args.tables.now c.args.path.now _ _ (omega arith) c.loop-table.invariant.told c.loop-table.invariant.in_order

pub returns-clause-no_mark : goal.returns-clause-no_mark
returns-clause-no_mark c =
    let order = all_in_order c.args.tables.now _ (omega arith) c.loop-table.invariant.in_order in
    no_mark c.loop-table.found
    (ap is_marked (found_told c.args.tables.now c.args.path.now _ _ (omega arith) c.loop-table.invariant.told c.loop-table.invariant.in_order)
    ∙ unmarked (whole c.args.tables.now) (IsWhole-whole c.args.tables.now order).no_marks c.args.path.now)
