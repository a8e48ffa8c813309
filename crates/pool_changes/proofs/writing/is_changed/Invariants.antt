use Rattle.std.specs.List.{AllByRecursion}
use Rattle.std.specs.declared.ops.Bound.TheVariants.{Included}
use Rattle.std.specs.BTreeMap.Range.{entries_between}
use Rattle.pool_index.specs.Items.{id_cmp}
use Rattle.pool_changes.specs.Slots.{least_of, greatest_of}
use Rattle.pool_changes.specs.Kept.{slots_of}
use Rattle.pool_changes.proofs.Layering.{IsEntry, AreAlikeItems}
use Rattle.pool_changes.proofs.writing.is_changed.Given as goal

abbrev pub invariant-loop-id : goal.invariant-loop-id
invariant-loop-id l = record {
  entries : AllByRecursion (IsEntry l.over.map l.byte) l.id-iterator;
  alike : AreAlikeItems (slots_of l.names) l.id-iterator → AreAlikeItems (slots_of l.names) (entries_between id_cmp (Included (least_of l.byte)) (Included (greatest_of l.byte)) l.over.map.entries);
}
