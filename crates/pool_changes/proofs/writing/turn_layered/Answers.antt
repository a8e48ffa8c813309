use Rattle.std.proofs.Common.{sym, ◌∙◌}
use Rattle.pool_changes.specs.Kept.{slots_of}
use Rattle.pool_changes.proofs.Layering.{sized_turned, turned_over, still_over, turned_nothing}
use Rattle.pool_changes.proofs.writing.turn_layered.Goals as goal

pub put-requires : goal.put-requires
put-requires c = sized_turned c.args.turn c.in-Some.slot c.turned.result (slots_of c.args.names.now) (slots_of c.args.over.now) c.args.id (sym c.in-Some.is ∙ c.slot_over.ensures) c.turned.ensures c.args.names.now.sized c.args.over.now.sized

pub returns-in-Ok : goal.returns-in-Ok
returns-in-Ok c = record {
  turned = turned_over c.args.turn (slots_of c.args.names.now) (slots_of c.args.over.now) (slots_of c.put.new.self) c.args.id c.in-Some.slot c.turned.result (sym c.in-Some.is ∙ c.slot_over.ensures) c.turned.ensures c.in-Ok.ensures.ok;
  over = still_over c.args.turn (slots_of c.args.names.now) (slots_of c.args.over.now) (slots_of c.put.new.self) c.args.id c.in-Some.slot c.turned.result (sym c.in-Some.is ∙ c.slot_over.ensures) c.turned.ensures c.in-Ok.ensures.ok;
}

pub returns-in-None : goal.returns-in-None
returns-in-None c = record {
  turned = turned_nothing c.args.turn _ c.args.id (sym c.in-None.is ∙ c.slot_over.ensures);
  over = λ lies. lies;
}
