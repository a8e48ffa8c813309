use Rattle.std.proofs.Common.{◌≡◌, ◌++◌, take}
use Rattle.std.specs.List.{AllByRecursion}
use Rattle.wire_bytes.specs.Breaks.{items_bytes}
use Rattle.ref_counts.specs.Layout.{item_bytes, IsInRange}
use Rattle.ref_counts.proofs.writing.put_items.Given as goal

abbrev pub invariant-loop-item : goal.invariant-loop-item
invariant-loop-item l = record {
  written : l.out.items ≡ l.initial.out.items ++ items_bytes item_bytes (take l.item-index l.items);
  range : AllByRecursion IsInRange (take l.item-index l.items);
}
