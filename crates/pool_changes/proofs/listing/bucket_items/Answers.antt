-- Entry by entry.
use Rattle.std.proofs.Common.{◌++◌, List, sym, ap, ◌∙◌, subst, arith}
use Rattle.pool_changes.specs.declared.listing.BucketItem.{BucketItem}
use Rattle.pool_changes.specs.Kept.{slots_of}
use Rattle.pool_changes.specs.Listed.{IsBucketOf}
use Rattle.pool_changes.proofs.Picking.{picked, pick_step, pick_end}
use Rattle.pool_changes.proofs.Totals.{bucket_pick, bucket_of_names, no_bucket}
use Rattle.pool_changes.proofs.listing.bucket_items.Goals as goal

pub loop-id-init : goal.loop-id-init
loop-id-init c =
    ap (λ (l : List BucketItem). l ++ picked bucket_pick c.into_iter-id-iterator.result) c.new-inner.ensures.items
    ∙ ap (picked bucket_pick) (c.into_iter-id-iterator.ensures.into_iter_gives ∙ c.between-id-items.ensures.between)

pub loop-id-preserved : goal.loop-id-preserved
loop-id-preserved c =
    pick_step bucket_pick c.loop-id.inner.items _ _ _ _ c.in-Some.id.now c.in-Some.slot.now c.bucket_item.result c.loop-id.invariant c.in-Some.ensures.steps c.bucket_item.ensures c.in-Ok.ensures

pub returns : goal.returns
returns c =
    bucket_of_names c.args.names.now.map c.args.bucket c.loop-id.inner.items c.args.names.now.named c.between-id-items.ensures.ordered
    (pick_end bucket_pick c.loop-id.inner.items _ c.loop-id.id-iterator c.loop-id.invariant c.in-None.ensures.steps.0)

pub returns-then-bucket-ge16 : goal.returns-then-bucket-ge16
returns-then-bucket-ge16 c =
    subst (λ (l : List BucketItem). IsBucketOf (slots_of c.args.names.now) c.args.bucket l) (sym c.new-inner.ensures.items)
    (no_bucket (slots_of c.args.names.now) c.args.bucket c.args.names.now.named (omega (arith, c.if-bucket-ge16.true)))
