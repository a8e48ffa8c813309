-- The ids that are listed are given ones.
use Rattle.std.proofs.Common.{List, [], ap, ◌∙◌, subst}
use Rattle.disk_trait.specs.declared.ids.PoolId.{PoolId}
use Rattle.pool_changes.specs.Indexed.{IsOf}
use Rattle.store_commits.specs.Ids.{given_in}
use Rattle.store_commits.specs.IdsLaws.{listed_given}
use Rattle.store_commits.proofs.settling.settle_rows.Goals as goal

pub settle-requires : goal.settle-requires
settle-requires g c =
    listed_given _ c.in_ok-ids.ids.items c.deref.result.now c.args.rows.now c.rows.result.now c.in_ok-ids.ensures c.rows.ensures.rows c.deref.ensures.value

pub returns-clause-added : goal.returns-clause-added
returns-clause-added g c =
    subst (λ (ids : List PoolId). IsOf c.in_ok-index.index ids [] [] [])
    (c.deref.ensures.value ∙ c.in_ok-ids.ensures ∙ ap (given_in _) c.rows.ensures.rows)
    c.in_ok-index.ensures.added
