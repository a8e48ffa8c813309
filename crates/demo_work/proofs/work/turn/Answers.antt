use Rattle.demo_work.proofs.WorkLaws.{turned_refused}
use Rattle.demo_work.proofs.work.turn.Goals as goal

pub returns-then-is_passed-clause-ok : goal.returns-then-is_passed-clause-ok
returns-then-is_passed-clause-ok g c =
    turned_refused g.P.Port.moves c.args.port.now c.call.new.self c.args.ask.now c.args.work.now c.in-Ok.event c.in-Err-call.refusal
    c.is_passed.result c.in-Ok.ensures c.in-Err-call.ensures.moved c.is_passed.ensures c.if-is_passed.true
