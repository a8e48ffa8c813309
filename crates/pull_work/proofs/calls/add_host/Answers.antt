use Rattle.std.specs.Prelude.{Ok, Err}
use Rattle.std.proofs.Common.{refl}
use Rattle.office_model.specs.declared.event.Event.TheVariants as E
use Rattle.pull_work.specs.Script.{Adding}
use Rattle.pull_work.proofs.GoesLaws.{called_as, lacked}
use Rattle.pull_work.proofs.calls.add_host.Goals as goal

pub returns-in_default-clause-goes : goal.returns-in_default-clause-goes
returns-in_default-clause-goes g c = λ seen. lacked g.P.Port.moves c.args.plan.now g.met.P.Port.none c.args.home.now seen Adding

pub returns-in_default-copy-clause-goes : goal.returns-in_default-copy-clause-goes
returns-in_default-copy-clause-goes g c = λ seen. lacked g.P.Port.moves c.args.plan.now g.met.P.Port.none c.args.home.now seen Adding

pub returns-in-Ok-call-clause-goes : goal.returns-in-Ok-call-clause-goes
returns-in-Ok-call-clause-goes g c = λ seen.
    called_as g.P.Port.moves c.args.plan.now c.args.home.now c.call.new.self seen Adding (E.AddHost c.args.plan.now.host c.args.plan.now.rules)
    (E.AddHost c.in-Ok.host c.in-Ok-copy.rules) (Ok c.in-Ok-call.field-0) refl (λ i. E.AddHost (c.in-Ok.ensures i) (c.in-Ok-copy.ensures i)) c.in-Ok-call.ensures.moved

pub returns-clause-goes : goal.returns-clause-goes
returns-clause-goes g c = λ seen.
    called_as g.P.Port.moves c.args.plan.now c.args.home.now c.call.new.self seen Adding (E.AddHost c.args.plan.now.host c.args.plan.now.rules)
    (E.AddHost c.in-Ok.host c.in-Ok-copy.rules) (Err c.in-Err.refusal) refl (λ i. E.AddHost (c.in-Ok.ensures i) (c.in-Ok-copy.ensures i)) c.in-Err.ensures.moved
