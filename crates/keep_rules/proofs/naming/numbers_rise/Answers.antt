use Rattle.keep_rules.proofs.RiseLaws.{rise_tested}
use Rattle.keep_rules.proofs.naming.numbers_rise.Goals as goal

pub returns : goal.returns
returns c = rise_tested c.args.lines.now c.rise.result c.rise.ensures
