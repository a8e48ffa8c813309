use Rattle.std.proofs.Common.{◌∙◌, sym, subst, refl, arith}
use Rattle.folder_restore.specs.Turns.{TurnStops}
use Rattle.folder_restore.proofs.RestoreSteps.{begun, goes_on, ends, fault_stops, turn_stops, bound_stops}
use Rattle.folder_restore.proofs.restoring.make_all.Goals as goal

pub loop-turn-init : goal.loop-turn-init
loop-turn-init g c = record {
  so_far = begun g.P.Port.moves g.met.P.Port.joined g.met.P.Port.none c.args.port.now c.args.restore (g.F.Folder.tree c.args.folder.now)
      c.new-making.result c.new-making.ensures;
  faultless = refl;
}

pub loop-turn-preserved : goal.loop-turn-preserved
loop-turn-preserved g c = record {
  so_far = goes_on g.P.Port.moves g.met.P.Port.joined g.met.P.Port.none c.args.port.now c.loop-turn.port c.make_next.new.port
      c.args.restore (g.F.Folder.tree c.args.folder.now) (g.F.Folder.tree c.loop-turn.folder) (g.F.Folder.tree c.make_next.new.folder)
      c.loop-turn.making c.make_next.new.making c.loop-turn.invariant.so_far (rw c.in-Ok-None.field-0-is at c.in-Ok-None.ensures.ok);
  faultless = c.in-Ok-None.ensures.counted.stays (λ failed. first_of (cc, grind arith)) ∙ c.loop-turn.invariant.faultless;
}

pub returns-in-Ok-clause-ok : goal.returns-in-Ok-clause-ok
returns-in-Ok-clause-ok g c =
    ends g.P.Port.moves g.met.P.Port.joined g.met.P.Port.none c.args.port.now c.loop-turn.port c.make_next.new.port
    c.args.restore (g.F.Folder.tree c.args.folder.now) (g.F.Folder.tree c.loop-turn.folder) (g.F.Folder.tree c.make_next.new.folder)
    c.loop-turn.making c.make_next.new.making c.loop-turn.invariant.so_far c.in-Ok-Some.entries (g.F.Folder.tree c.finish.new.folder)
    (rw c.in-Ok-Some.field-0-is at c.in-Ok-Some.ensures.ok) c.in-Ok.ensures.whole

pub returns-in-Err-finish-clause-err : goal.returns-in-Err-finish-clause-err
returns-in-Err-finish-clause-err g c =
    subst (λ refusal. TurnStops g.P.Port.moves c.args.port.now c.make_next.new.port c.args.restore refusal) (sym c.of_fault.ensures)
    (fault_stops g.P.Port.moves g.met.P.Port.joined g.met.P.Port.none c.args.port.now c.loop-turn.port c.make_next.new.port
    c.args.restore (g.F.Folder.tree c.args.folder.now) (g.F.Folder.tree c.loop-turn.folder) (g.F.Folder.tree c.make_next.new.folder)
    c.loop-turn.making c.make_next.new.making c.loop-turn.invariant.so_far c.in-Ok-Some.entries c.in-Err-finish.fault
    (rw c.in-Ok-Some.field-0-is at c.in-Ok-Some.ensures.ok))

pub returns-in-Err-clause-err : goal.returns-in-Err-clause-err
returns-in-Err-clause-err g c =
    turn_stops g.P.Port.moves g.met.P.Port.joined g.met.P.Port.none c.args.port.now c.loop-turn.port c.make_next.new.port
    c.args.restore (g.F.Folder.tree c.args.folder.now) (g.F.Folder.tree c.loop-turn.folder) (g.F.Folder.tree c.make_next.new.folder)
    c.loop-turn.making c.make_next.new.making c.loop-turn.invariant.so_far c.in-Err.refusal c.in-Err.ensures.err

pub returns-clause-err : goal.returns-clause-err
returns-clause-err g c =
    bound_stops g.P.Port.moves g.met.P.Port.joined g.met.P.Port.none c.args.port.now c.loop-turn.port c.args.restore
    (g.F.Folder.tree c.args.folder.now) (g.F.Folder.tree c.loop-turn.folder) c.loop-turn.making c.loop-turn.invariant.so_far
