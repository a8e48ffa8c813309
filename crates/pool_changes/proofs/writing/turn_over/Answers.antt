use Rattle.std.proofs.Common.{Some, sym, ◌∙◌}
use Rattle.pool_changes.specs.Kept.{slots_of}
use Rattle.pool_changes.proofs.Layering.{still_used}
use Rattle.pool_changes.proofs.writing.turn_over.Goals as goal

pub returns-in-Ok-None-clause-over : goal.returns-in-Ok-None-clause-over
returns-in-Ok-None-clause-over c = still_used (slots_of c.args.names.now) (slots_of c.args.over.now) (slots_of c.swap.new.self) c.args.id c.in-Some.slot (Some c.turned.result)
    (sym c.in-Some.is ∙ c.get.ensures) c.in-Ok-None.ensures.set

pub returns-in-Ok-clause-over : goal.returns-in-Ok-clause-over
returns-in-Ok-clause-over c =
    let used = sym c.in-Some.is ∙ c.get.ensures in
    λ before. still_used (slots_of c.args.names.now) (slots_of c.swap.new.self) (slots_of c.put.new.self) c.args.id c.in-Some.slot (Some c.turned-in-Ok-Some.result) used c.in-Ok.ensures.ok
    (still_used (slots_of c.args.names.now) (slots_of c.args.over.now) (slots_of c.swap.new.self) c.args.id c.in-Some.slot (Some c.turned.result) used c.in-Ok-Some.ensures.set before)
