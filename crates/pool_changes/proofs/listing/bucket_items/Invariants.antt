use Rattle.std.proofs.Common.{◌≡◌, ◌++◌, ◌*◌, ◌+◌}
use Rattle.std.specs.declared.ops.Bound.TheVariants.{Included}
use Rattle.std.specs.BTreeMap.Range.{entries_between}
use Rattle.pool_index.specs.Items.{id_cmp}
use Rattle.pool_changes.specs.Slots.{least_of, greatest_of}
use Rattle.pool_changes.proofs.Picking.{picked}
use Rattle.pool_changes.proofs.Totals.{bucket_pick}
use Rattle.pool_changes.proofs.listing.bucket_items.Given as goal

abbrev pub invariant-loop-id : goal.invariant-loop-id
invariant-loop-id l =
    l.inner.items ++ picked bucket_pick l.id-iterator
    ≡ picked bucket_pick (entries_between id_cmp (Included (least_of (l.bucket * 16))) (Included (greatest_of (l.bucket * 16 + 15))) l.names.map.entries)
