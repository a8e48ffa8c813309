-- What reading the former newest's table comes to.
use Rattle.std.proofs.Common.{refl}
use Rattle.store_commits.specs.FormerLaws.{fold_fault, folded_line}
use Rattle.store_commits.proofs.former.fold.Goals as goal

pub returns-in-Err-clause-kind : goal.returns-in-Err-clause-kind
returns-in-Err-clause-kind g c =
    fold_fault _ c.args.host c.args.number c.in-Err.fault c.refusal_of_view.result c.refusal_of_view.ensures.value c.in-Err.ensures.damaged

pub returns-clause-folded : goal.returns-clause-folded
returns-clause-folded g c =
    folded_line _ c.args.host c.args.number c.args.newer.now _ c.in-Ok.ensures.is c.in-Ok.ensures.one refl c.in_ok-entries.ensures.value
