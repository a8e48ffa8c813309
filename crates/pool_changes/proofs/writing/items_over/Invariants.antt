use Rattle.std.proofs.Common.{◌≡◌, ◌++◌}
use Rattle.std.specs.List.{AllByRecursion}
use Rattle.std.specs.declared.ops.Bound.TheVariants.{Included}
use Rattle.std.specs.BTreeMap.Range.{entries_between}
use Rattle.pool_index.specs.Items.{id_cmp}
use Rattle.pool_changes.specs.Slots.{least_of, greatest_of}
use Rattle.pool_changes.specs.Kept.{slots_of}
use Rattle.pool_changes.specs.Listed.{item_of}
use Rattle.pool_changes.specs.Writing.{layered}
use Rattle.pool_changes.proofs.Picking.{picked}
use Rattle.pool_changes.proofs.Layering.{IsEntry}
use Rattle.pool_changes.proofs.writing.items_over.Given as goal

abbrev pub invariant-loop-id : goal.invariant-loop-id
invariant-loop-id l = record {
  entries : AllByRecursion (IsEntry l.names.map l.byte) l.id-iterator;
  so_far : l.items.items ++ picked (λ id slot. item_of id (layered (slots_of l.names) (slots_of l.over) id)) l.id-iterator
      ≡ picked (λ id slot. item_of id (layered (slots_of l.names) (slots_of l.over) id)) (entries_between id_cmp (Included (least_of l.byte)) (Included (greatest_of l.byte)) l.names.map.entries);
}
