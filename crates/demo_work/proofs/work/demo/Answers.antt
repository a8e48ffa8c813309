use Rattle.std.proofs.Common.{sym}
use Rattle.demo_work.proofs.WorkLaws.{shows_refused, shows_occupied, shows_behind}
use Rattle.demo_work.proofs.work.demo.Goals as goal

pub returns-in-Err : goal.returns-in-Err
returns-in-Err g c = shows_refused g.P.Port.moves c.args.port.now c.hosts_of.new.port c.args.number c.in-Err.refusal c.in-Err.ensures.err

pub returns-then-is_empty : goal.returns-then-is_empty
returns-then-is_empty g c =
    shows_behind g.P.Port.moves g.met.P.Port.joined c.args.port.now c.hosts_of.new.port c.fresh_demo.new.port c.args.number
    c.as_slice.result.now _ _ c.as_slice.ensures (sym c.if-is_empty.ensures) c.in-Ok.ensures.ok c.fresh_demo.ensures

pub returns : goal.returns
returns g c =
    shows_occupied g.P.Port.moves c.args.port.now c.hosts_of.new.port c.args.number c.as_slice.result.now _ c.as_slice.ensures
    (sym c.if-is_empty.ensures) c.in-Ok.ensures.ok
