-- The range has the bounds that were asked for.
use Rattle.std.proofs.Common.{◌≡◌, false, sym, ◌∙◌, subst}
use Rattle.std.specs.Ordering.{is_gt}
use Rattle.std.specs.BTreeMap.Range.{IsRangeOf, entries_between}
use Rattle.std.specs.declared.ops.Bound.TheVariants.{Included}
use Rattle.disk_trait.specs.declared.ids.PoolId.{PoolId}
use Rattle.pool_index.specs.Items.{id_cmp}
use Rattle.pool_changes.proofs.Ranging.{is_forward}
use Rattle.pool_changes.proofs.names.Names.between.Goals as goal

pub range-requires : goal.range-requires
range-requires c =
    subst (λ (p : PoolId × PoolId). is_gt (id_cmp p.0 p.1) ≡ false) (λ i. (sym (c.new.ensures.start ∙ c.least_of.ensures) i, sym (c.new.ensures.end ∙ c.greatest_of.ensures) i)) (is_forward c.args.first c.args.last c.requires)

pub returns-clause-between : goal.returns-clause-between
returns-clause-between c =
    c.range.ensures.between c.new.ensures.exhausted
    ∙ (λ i. entries_between id_cmp (Included ((c.new.ensures.start ∙ c.least_of.ensures) i)) (Included ((c.new.ensures.end ∙ c.greatest_of.ensures) i)) c.args.self.now.map.entries)

pub returns-clause-in_range : goal.returns-clause-in_range
returns-clause-in_range c =
    subst (λ (p : PoolId × PoolId). IsRangeOf id_cmp (Included p.0) (Included p.1) c.args.self.now.map c.range.result)
    (λ i. ((c.new.ensures.start ∙ c.least_of.ensures) i, (c.new.ensures.end ∙ c.greatest_of.ensures) i)) (c.range.ensures.in_range c.new.ensures.exhausted)
