use Rattle.std.proofs.Common.{sym, subst}
use Rattle.folder_restore.specs.Turns.{TurnStops}
use Rattle.folder_restore.proofs.RestoreSteps.{refused_turn, failed_turn, fault_counted}
use Rattle.folder_restore.proofs.restoring.make_next.Goals as goal

pub returns-in-Err-clause-err : goal.returns-in-Err-clause-err
returns-in-Err-clause-err g c =
    refused_turn g.P.Port.moves c.args.port.now c.read_next.new.port c.args.restore c.in-Err.refusal c.in-Err.ensures.err

pub returns-in-Ok-take-clause-ok : goal.returns-in-Ok-take-clause-ok
returns-in-Ok-take-clause-ok g c = record {
  frame = c.in-Ok.frame;
  end_is = c.told_end-end.ensures;
  moved = c.in-Ok.ensures.ok;
  makes = c.in-Ok-take.ensures.holds;
}

pub returns-in-Err-take-clause-err : goal.returns-in-Err-take-clause-err
returns-in-Err-take-clause-err g c =
    subst (λ refusal. TurnStops g.P.Port.moves c.args.port.now c.read_next.new.port c.args.restore refusal) (sym c.of_fault.ensures)
    (failed_turn g.P.Port.moves c.args.port.now c.read_next.new.port c.args.restore c.in-Ok.frame c.in-Err-take.fault c.in-Ok.ensures.ok)

pub returns-in-Err-take-clause-counted : goal.returns-in-Err-take-clause-counted
returns-in-Err-take-clause-counted g c = fault_counted _ _ c.in-Err-take.fault c.of_fault.result c.of_fault.ensures c.in-Err-take.ensures.counted
