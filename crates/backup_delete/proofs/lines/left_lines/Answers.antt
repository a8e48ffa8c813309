use Rattle.std.proofs.Common.{ap, ◌∙◌}
use Rattle.backup_delete.specs.Folds.{last_filled}
use Rattle.backup_delete.specs.LineLaws.{left-kept}
use Rattle.backup_delete.proofs.lines.left_lines.Goals as goal

pub returns : goal.returns
returns c = c.fill_last.ensures ∙ ap last_filled c.in_ok-kept.ensures ∙ left-kept c.args.numbers.now c.args.lines.now
