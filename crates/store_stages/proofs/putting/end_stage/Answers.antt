use Rattle.std.proofs.Common.{◌∙◌}
use Rattle.store_stages.proofs.Repeats.{left_found, left_none}
use Rattle.store_stages.proofs.putting.end_stage.Goals as goal

pub returns-in-Some-clause-left : goal.returns-in-Some-clause-left
returns-in-Some-clause-left g c = c.take-stage.ensures.others
    ∙ left_found c.args.stages.now.items.items c.args.session c.args.number c.in-Some.at c.in-Some.ensures.found c.in-Some.ensures.of_dump

pub returns-in-None-clause-left : goal.returns-in-None-clause-left
returns-in-None-clause-left g c =
    left_none c.args.stages.now.items.items c.args.session c.args.number c.in-None.ensures.none
