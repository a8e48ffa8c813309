use Rattle.pull_work.proofs.PartLaws.{adopted, unadopted}
use Rattle.pull_work.proofs.calls.adopt.Goals as goal

pub returns-in-Ok-clause-goes : goal.returns-in-Ok-clause-goes
returns-in-Ok-clause-goes g c = λ seen plan job is.
    adopted g.P.Port.moves g.met.P.Port.none plan c.args.home.now c.call.new.self seen job c.args.dump c.args.line.now c.in-Ok.field-0 is c.in-Ok.ensures.moved

pub returns-clause-goes : goal.returns-clause-goes
returns-clause-goes g c = λ seen plan job is.
    unadopted g.P.Port.moves g.met.P.Port.none plan c.args.home.now c.call.new.self seen job c.args.dump c.args.line.now c.in-Err.refusal is c.in-Err.ensures.moved
