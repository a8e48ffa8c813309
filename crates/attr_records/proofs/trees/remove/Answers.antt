-- The closure only tests, so what it keeps is a filter.
use Rattle.std.proofs.Common.{rules, not}
use Rattle.std.proofs.lemmas.Map.Made.{filter_same_pairs}
use Rattle.attr_records.specs.Paths.{is_within}
use Rattle.attr_records.proofs.trees.remove.Goals as goal

pub returns : goal.returns
returns c =
    filter_same_pairs _ (λ row. not (is_within c.args.path.now row.0)) _ (λ k v b w f' t. search rules) _ _ c.retain.ensures.filtered
