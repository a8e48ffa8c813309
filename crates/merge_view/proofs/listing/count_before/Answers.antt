-- The rows that come first are a prefix, which the search finds.
use Rattle.std.proofs.Common.{rules}
use Rattle.std.proofs.lemmas.Fn.{always_returns_same}
use Rattle.merge_view.specs.Runs.{row_first}
use Rattle.merge_view.specs.RunLaws.{parted}
use Rattle.merge_view.proofs.listing.count_before.Goals as goal

pub returns-clause-prefix : goal.returns-clause-prefix
returns-clause-prefix c =
    (c.prefix_length.ensures.parted (row_first c.args.past c.args.directory.now) (always_returns_same _ _ _ (λ a r f' t. search rules))
    (parted c.args.past c.args.directory.now c.args.rows.now c.requires)).0

pub returns-clause-rest : goal.returns-clause-rest
returns-clause-rest c =
    (c.prefix_length.ensures.parted (row_first c.args.past c.args.directory.now) (always_returns_same _ _ _ (λ a r f' t. search rules))
    (parted c.args.past c.args.directory.now c.args.rows.now c.requires)).1
