use Rattle.office_model.specs.declared.event.Event.TheVariants as E
use Rattle.std.proofs.Common.{refl}
use Rattle.pull_work.specs.Script.{Aborting}
use Rattle.pull_work.proofs.GoesLaws.{called}
use Rattle.pull_work.proofs.calls.abort.Goals as goal

pub returns : goal.returns
returns g c = λ seen plan end.
    called g.P.Port.moves plan c.args.home.now c.call-answered.new.self seen (Aborting c.args.dump end) (E.Abort c.args.dump) c.call-answered.result refl
    c.call-answered.ensures.moved
