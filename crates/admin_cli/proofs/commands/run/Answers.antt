use Rattle.std.proofs.Common.{refl}
use Rattle.admin_cli.proofs.HeadlineLaws.{complete, tells}
use Rattle.admin_cli.proofs.commands.run.Goals as goal

pub returns-clause-refusals : goal.returns-clause-refusals
returns-clause-refusals g c = tells _ _ _ _ _ _ _ _ _ _ _ _ _ _ _ _ _ _ _ _ _ c.do_asked.ensures

pub returns-clause-complete : goal.returns-clause-complete
returns-clause-complete g c = complete _ _ _ _ _ _ _ _ _ _ _ _ _ _ _ _ _ _ _ _ _ _ _ c.do_asked.ensures refl refl
