-- The rows fall into those before the directory, its own, and those past it.
use Rattle.std.proofs.Common.{◌≡◌, ◌-◌, ◌++◌, ℕ, List, true, false, length, take, drop, sym, ap, ◌∙◌, subst}
use Rattle.std.specs.List.{list_all, list_any}
use Rattle.std.proofs.lemmas.List.{take_rest, take-append-drop}
use Rattle.attr_records.specs.Paths.{path_cmp}
use Rattle.ordered_lists.specs.Order.{IsInOrder}
use Rattle.ordered_lists.specs.OrderLaws.{IsInOrder-drop}
use Rattle.attr_tables.specs.declared.records.Record.{Record}
use Rattle.merge_view.specs.Runs.{within_rows, row_first}
use Rattle.merge_view.specs.RunLaws.{run}
use Rattle.merge_view.proofs.listing.within.Goals as goal

rest_in_order : (rows : List (List ℕ × Record)) (n : ℕ) → IsInOrder path_cmp rows
    → IsInOrder path_cmp (take (length rows - n) (drop n rows))
rest_in_order rows n order = subst (IsInOrder path_cmp) (sym (take_rest rows n)) (IsInOrder-drop path_cmp n rows order)

parted : (directory : List ℕ) (rows rest : List (List ℕ × Record)) (n m : ℕ) → rest ≡ drop n rows
    → list_all (row_first false directory) (take n rows) ≡ true → list_any (row_first false directory) (drop n rows) ≡ false
    → list_all (row_first true directory) (take m rest) ≡ true → list_any (row_first true directory) (drop m rest) ≡ false
    → take m rest ≡ within_rows directory rows
parted directory rows rest n m is prefix rest_none all none =
    let whole : take n rows ++ (take m rest ++ drop m rest) ≡ rows = ap (λ others. take n rows ++ others) (take-append-drop m rest ∙ is) ∙ take-append-drop n rows in
    run directory (take n rows) (take m rest) (drop m rest) prefix (ap (list_any (row_first false directory)) (take-append-drop m rest ∙ is) ∙ rest_none) all none
    ∙ ap (within_rows directory) whole

pub count_before-requires-2 : goal.count_before-requires-2
count_before-requires-2 c = rest_in_order c.args.rows.now c.count_before.result c.requires

pub returns : goal.returns
returns c =
    parted c.args.directory.now c.args.rows.now _ c.count_before.result c.count_before-2.result (take_rest c.args.rows.now c.count_before.result) c.count_before.ensures.prefix c.count_before.ensures.rest c.count_before-2.ensures.prefix c.count_before-2.ensures.rest
