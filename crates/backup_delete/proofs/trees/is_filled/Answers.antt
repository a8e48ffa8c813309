use Rattle.backup_delete.proofs.RunSteps.{filled_here}
use Rattle.backup_delete.proofs.trees.is_filled.Goals as goal

pub returns : goal.returns
returns c = filled_here c.args.lines.now c.args.index c.requires
