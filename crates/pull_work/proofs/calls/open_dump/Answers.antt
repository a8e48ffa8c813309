use Rattle.pull_work.specs.Script.{Opening}
use Rattle.pull_work.proofs.GoesLaws.{lacked}
use Rattle.pull_work.proofs.PartLaws.{opened_as, opened_known, unopened}
use Rattle.pull_work.proofs.calls.open_dump.Goals as goal

pub returns-in_default-clause-goes : goal.returns-in_default-clause-goes
returns-in_default-clause-goes g c = λ seen job restore is. lacked g.P.Port.moves c.args.plan.now g.met.P.Port.none c.args.home.now seen (Opening job restore)

pub returns-in-Ok-Dump-clause-goes : goal.returns-in-Ok-Dump-clause-goes
returns-in-Ok-Dump-clause-goes g c = λ seen job restore is.
    opened_as g.P.Port.moves g.met.P.Port.none c.args.plan.now c.args.home.now c.call.new.self seen job restore c.args.base c.in-Ok.host c.kind_for.result
    c.in-Ok-Dump.dump is c.in-Ok.ensures c.kind_for.ensures (rw c.in-Ok-Dump.field-0-is at c.in-Ok-Dump.ensures.moved)

pub returns-in-Ok-Already-clause-goes : goal.returns-in-Ok-Already-clause-goes
returns-in-Ok-Already-clause-goes g c = λ seen job restore is.
    opened_known g.P.Port.moves g.met.P.Port.none c.args.plan.now c.args.home.now c.call.new.self seen job restore c.args.base c.in-Ok.host c.kind_for.result
    c.in-Ok-Already.field-0-0 is c.in-Ok.ensures c.kind_for.ensures (rw c.in-Ok-Already.field-0-is at c.in-Ok-Already.ensures.moved)

pub returns-clause-goes : goal.returns-clause-goes
returns-clause-goes g c = λ seen job restore is.
    unopened g.P.Port.moves g.met.P.Port.none c.args.plan.now c.args.home.now c.call.new.self seen job restore c.args.base c.in-Ok.host c.kind_for.result
    c.in-Err.refusal is c.in-Ok.ensures c.kind_for.ensures c.in-Err.ensures.moved
