use Rattle.std.proofs.Common.{◌≡◌, drop, None}
use Rattle.std.specs.Option.{option_copied}
use Rattle.merge_view.specs.Tables.{told, AllInOrder}
use Rattle.merge_view.proofs.views.lookup.Given as goal

abbrev pub invariant-loop-table : goal.invariant-loop-table
invariant-loop-table l = record {
  told : told (drop l.table-index l.tables) l.path (option_copied l.found) ≡ told l.tables l.path None;
  in_order : AllInOrder (drop l.table-index l.tables) → AllInOrder l.tables;
}
