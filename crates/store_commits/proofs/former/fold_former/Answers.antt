-- The line that is given is the one that is dropped.
use Rattle.std.proofs.Common.{refl}
use Rattle.store_commits.specs.FormerLaws.{folded_some}
use Rattle.store_commits.proofs.former.fold_former.Goals as goal

pub returns-in-Ok-clause-folded : goal.returns-in-Ok-clause-folded
returns-in-Ok-clause-folded g c =
    folded_some _ c.args.host c.in-Some.line c.args.dropped c.args.newer.now c.in-Ok.folding c.in-Some.is
    (c.in-Ok.ensures.folded c.in-Some.line refl)
