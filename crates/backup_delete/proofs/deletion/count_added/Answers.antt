use Rattle.std.proofs.Common.{◌∙◌}
use Rattle.backup_delete.proofs.Steps.{one_added}
use Rattle.backup_delete.proofs.deletion.count_added.Goals as goal

pub returns-in_ok-count-in-Some : goal.returns-in_ok-count-in-Some
returns-in_ok-count-in-Some c = λ id n is. c.in_ok-count-in-Some.ensures id n is ∙ one_added id n c.in-Some.table.now c.args.change.now.1 c.in-Some.ensures
