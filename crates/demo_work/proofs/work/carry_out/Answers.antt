use Rattle.std.proofs.Common.{refl}
use Rattle.demo_work.specs.declared.work.Work.{Work}
use Rattle.demo_work.proofs.WorkLaws.{so_far_next, finished, turn_stops}
use Rattle.demo_work.proofs.work.carry_out.Goals as goal

pub returns-in-None-clause-ok : goal.returns-in-None-clause-ok
returns-in-None-clause-ok g c =
    finished g.P.Port.moves g.met.P.Port.joined g.met.P.Port.none c.args.port.now c.loop-turn.port c.args.work c.loop-turn.work
    c.loop-turn.work.pending.len c.pop.new.self.items c.in-None.ensures.cases.0 c.in-None.ensures.rest c.in-None.ensures.items
    c.loop-turn.invariant

pub returns-in-Err-clause-err : goal.returns-in-Err-clause-err
returns-in-Err-clause-err g c =
    let between : Work = record { dump = c.loop-turn.work.dump; pending = c.pop.new.self; tally = c.loop-turn.work.tally } in
    turn_stops g.P.Port.moves g.met.P.Port.joined g.met.P.Port.none c.args.port.now c.loop-turn.port c.turn.new.port c.args.work
    c.loop-turn.work between c.in-Some.ask c.in-Err.stop refl c.in-Some.ensures.items c.loop-turn.invariant c.in-Err.ensures.err

pub loop-turn-preserved : goal.loop-turn-preserved
loop-turn-preserved g c =
    let between : Work = record { dump = c.loop-turn.work.dump; pending = c.pop.new.self; tally = c.loop-turn.work.tally } in
    so_far_next g.P.Port.moves g.met.P.Port.joined g.met.P.Port.none c.args.port.now c.loop-turn.port c.turn.new.port c.args.work
    c.loop-turn.work between c.turn.new.work c.in-Some.ask refl c.in-Some.ensures.items refl c.loop-turn.invariant c.in-Ok.ensures.ok
