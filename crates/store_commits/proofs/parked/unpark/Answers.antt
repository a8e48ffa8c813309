-- Without a partial nothing is to be done.
use Rattle.std.proofs.Common.{sym, ◌∙◌}
use Rattle.store_commits.specs.ParkedLaws.{none_cleared}
use Rattle.store_commits.proofs.parked.unpark.Goals as goal

pub returns-else-is_some : goal.returns-else-is_some
returns-else-is_some c =
    none_cleared c.args.partials.now c.args.host c.of_host.result c.of_host.ensures (sym c.is_some.ensures ∙ c.if-is_some.false)
