use Rattle.office_catalog.proofs.Naming.{few_taken, fresh_taken, names_more}
use Rattle.std.proofs.Common.{◌∙◌}
use Rattle.office_catalog.proofs.catalog.Catalog.names.Goals as goal

pub add-requires-clause-room : goal.add-requires-clause-room
add-requires-clause-room c = few_taken _ _ _ _ c.loop-index.invariant c.hosts-index-items.ensures.hosts c.hosts-index-items.ensures.are.names c.loop-index-test.true

pub add-requires-clause-fresh : goal.add-requires-clause-fresh
add-requires-clause-fresh c =
    fresh_taken _ _ _ _ _ _ c.loop-index.invariant c.hosts-index-items.ensures.hosts c.hosts-index-items.ensures.are.names c.loop-index-test.true c.index-item.is (c.in_ok-copy.ensures ∙ c.name.ensures)

pub loop-index-preserved : goal.loop-index-preserved
loop-index-preserved c = names_more _ _ _ _ _ _ c.loop-index.invariant c.loop-index-test.true c.index-item.is (c.in_ok-copy.ensures ∙ c.name.ensures) c.in_ok-add.ensures.ok
