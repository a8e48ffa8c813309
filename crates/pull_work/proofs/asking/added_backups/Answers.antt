use Rattle.pull_work.specs.Script.{Adding, AskingAgain, Over}
use Rattle.pull_work.specs.Parts.{own_phase}
use Rattle.std.specs.Prelude.{Ok}
use Rattle.pull_work.proofs.GoesLaws.{joined_by}
use Rattle.pull_work.proofs.PartLaws.{again_listed, again_failed}
use Rattle.pull_work.proofs.asking.added_backups.Goals as goal

pub returns-in-Ok-list_own-clause-goes : goal.returns-in-Ok-list_own-clause-goes
returns-in-Ok-list_own-clause-goes g c = λ seen.
    joined_by g.P.Port.moves c.args.plan.now g.met.P.Port.joined c.args.home.now c.add_host.new.home c.list_own.new.home seen seen seen Adding AskingAgain
    (own_phase (Ok c.in-Ok-list_own.own)) (c.in-Ok.ensures.goes seen)
    (again_listed g.P.Port.moves g.met.P.Port.none c.args.plan.now c.add_host.new.home c.list_own.new.home seen c.in-Ok-list_own.own c.in-Ok-list_own.ensures.ok)

pub returns-in-Err-list_own-clause-goes : goal.returns-in-Err-list_own-clause-goes
returns-in-Err-list_own-clause-goes g c = λ seen.
    joined_by g.P.Port.moves c.args.plan.now g.met.P.Port.joined c.args.home.now c.add_host.new.home c.list_own.new.home seen seen seen Adding AskingAgain
    (Over c.home_end.result) (c.in-Ok.ensures.goes seen)
    (again_failed g.P.Port.moves g.met.P.Port.none c.args.plan.now c.add_host.new.home c.list_own.new.home seen c.in-Err-list_own.fault c.home_end.result
    c.home_end.ensures c.in-Err-list_own.ensures.err)
