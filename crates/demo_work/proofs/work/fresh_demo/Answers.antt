use Rattle.std.proofs.Common.{sym, subst}
use Rattle.demo_work.specs.Steps.{Continues}
use Rattle.demo_work.proofs.WorkLaws.{continues_done, continues_stopped}
use Rattle.demo_work.proofs.work.fresh_demo.Goals as goal

pub returns-in-Ok-carry_out : goal.returns-in-Ok-carry_out
returns-in-Ok-carry_out g c =
    continues_done g.P.Port.moves c.args.port.now c.carry_out.new.port c.args.number c.in-Ok.work c.in-Ok-carry_out.tally c.summary.result
    c.in-Ok.ensures c.in-Ok-carry_out.ensures.ok c.summary.ensures

pub returns-in-Err-carry_out : goal.returns-in-Err-carry_out
returns-in-Err-carry_out g c =
    subst (λ e. Continues g.P.Port.moves c.args.port.now c.carry_out.new.port c.args.number e) (sym c.end_of.ensures)
    (continues_stopped g.P.Port.moves c.args.port.now c.carry_out.new.port c.args.number c.in-Ok.work c.in-Err-carry_out.stop
    c.in-Ok.ensures c.in-Err-carry_out.ensures.err)
