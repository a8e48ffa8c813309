-- The closure only tests, so what it keeps is a filter.
use Rattle.std.proofs.Common.{rules}
use Rattle.std.proofs.lemmas.Map.Made.{filter_same_pairs}
use Rattle.office_model.specs.Pool.{is_pooled}
use Rattle.tree_office.proofs.pooled.keep_pooled.Goals as goal

pub returns : goal.returns
returns c = filter_same_pairs _ (λ entry. is_pooled c.args.pool.now.entries entry.1) _ (λ k v b w f' t. search rules) _ _ c.retain.ensures.filtered
