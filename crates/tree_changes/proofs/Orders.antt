-- What is removed and put is in the order of the paths.
use Rattle.std.specs.Prelude.{ℕ, List}
use Rattle.attr_records.specs.Paths.{path_cmp}
use Rattle.ordered_lists.specs.Order.{IsInOrder}
use Rattle.attr_tables.specs.declared.records.Record.{Record}
use Rattle.attr_tables.specs.Records.{is_dir, is_same_record}
use Rattle.change_laws.specs.Changes.{lost_rows, changed_rows, topmost}
use Rattle.change_laws.specs.BroughtLaws.{IsInOrder-lost, IsInOrder-changed, IsInOrder-topmost}

pub lost_order : (newer older : List (List ℕ × Record)) → IsInOrder path_cmp newer → IsInOrder path_cmp older → IsInOrder path_cmp (lost_rows is_dir newer older)
lost_order newer older = IsInOrder-lost is_dir newer older

pub changed_order : (newer older : List (List ℕ × Record)) → IsInOrder path_cmp newer → IsInOrder path_cmp older
    → IsInOrder path_cmp (changed_rows is_same_record newer older)
changed_order newer older = IsInOrder-changed is_same_record newer older

pub topmost_order : (rows : List (List ℕ × Record)) → IsInOrder path_cmp rows → IsInOrder path_cmp (topmost rows)
topmost_order rows = IsInOrder-topmost rows

pub ruleset orders = (lost_order, changed_order, topmost_order)
