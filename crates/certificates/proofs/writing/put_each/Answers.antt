-- One more id behind those that were written.
use Rattle.std.proofs.Common.{[], refl}
use Rattle.wire_bytes.specs.ItemLaws.{items_put_more}
use Rattle.certificates.specs.Layout.{one_id_bytes}
use Rattle.certificates.proofs.writing.put_each.Goals as goal

pub loop-id-preserved : goal.loop-id-preserved
loop-id-preserved c =
    items_put_more one_id_bytes c.args.ids.now c.loop-id.id-index _ [] _ _ _ c.loop-id-test.true refl c.loop-id.invariant c.in_ok-put_bytes.ensures.ok
