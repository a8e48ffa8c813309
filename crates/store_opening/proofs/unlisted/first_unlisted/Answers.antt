use Rattle.std.specs.Prelude.{is_some}
use Rattle.std.proofs.Common.{ℕ, sym, ap, ◌∙◌}
use Rattle.disk_trait.specs.declared.ids.PoolId.{PoolId}
use Rattle.pool_changes.specs.Kept.{slots_of}
use Rattle.pool_changes.specs.Listed.{index_of}
use Rattle.pool_changes.specs.StepLaws.{first_of}
use Rattle.store_opening.proofs.Unlisting.{unlisted_next}
use Rattle.store_opening.proofs.unlisted.first_unlisted.Goals as goal

pub loop-item-preserved : goal.loop-item-preserved
loop-item-preserved g c =
    unlisted_next (index_of (slots_of c.args.pool.now.names)) _ _ _ c.args.items.now
    (first_of c.args.items.now c.loop-item.item-index c.item-item.result c.loop-item-test.true)
    (ap (λ (item : PoolId × ℕ). is_some (index_of (slots_of c.args.pool.now.names) item.0)) (sym c.item-item.is)
    ∙ sym c.lists_item.ensures ∙ c.if-not-lists_item.false)
    c.loop-item.invariant
