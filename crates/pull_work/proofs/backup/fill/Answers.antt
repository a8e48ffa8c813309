use Rattle.std.specs.Prelude.{IsErrOf}
use Rattle.http_wire.specs.Wires.{faults_of, seen_of}
use Rattle.peer_exchange.specs.declared.fault.PeerFault.TheVariants as F
use Rattle.frame_puts.specs.declared.laying.Laying.TheVariants.{Nothing}
use Rattle.pull_work.specs.declared.ends.PullEnd.TheVariants.{LinkFault}
use Rattle.pull_work.specs.Script.{Reading, Closing, Adopting, Aborting, intake_of}
use Rattle.pull_work.specs.Parts.{or_aborting, brought}
use Rattle.pull_work.proofs.CountLaws.{Counted-calm, Counted-behind, Counted-end, Counted-err, still, no_link}
use Rattle.pull_work.proofs.GoesLaws.{joined_by}
use Rattle.pull_work.proofs.PartLaws.{closed, unclosed}
use Rattle.pull_work.proofs.backup.fill.Goals as goal

pub returns-in-Err-clause-goes : goal.returns-in-Err-clause-goes
returns-in-Err-clause-goes g c = λ plan job is. c.in-Err.ensures.goes plan job

pub returns-in-Err-close_restore-clause-goes : goal.returns-in-Err-close_restore-clause-goes
returns-in-Err-close_restore-clause-goes g c = λ plan job is.
    joined_by g.P.Port.moves plan g.met.P.Port.joined c.args.home.now c.read_all.new.home c.read_all.new.home (seen_of c.args.wire.now)
    (seen_of c.read_all.new.wire) (seen_of c.close_restore.new.wire) (Reading (intake_of job c.args.restore c.args.dump Nothing 0))
    (Closing job c.args.restore c.args.dump) (Aborting c.args.dump c.end_by.result) (c.in-Ok.ensures.goes plan job)
    (unclosed g.P.Port.moves g.met.P.Port.none plan c.read_all.new.home (seen_of c.read_all.new.wire) (seen_of c.close_restore.new.wire) job c.args.restore
    c.args.dump c.in-Err-close_restore.fault c.end_by.result c.end_by.ensures c.in-Err-close_restore.ensures.asked)

pub returns-in-Err-close_restore-clause-counted : goal.returns-in-Err-close_restore-clause-counted
returns-in-Err-close_restore-clause-counted g c =
    Counted-behind _ _ _ _ (still _ _ _ LinkFault c.in-Ok.ensures.counted)
    (Counted-err _ _ c.end_by.result (Counted-end _ _ c.in-Err-close_restore.fault c.end_by.result c.end_by.ensures c.in-Err-close_restore.ensures.counted))

pub returns-clause-goes : goal.returns-clause-goes
returns-clause-goes g c = λ plan job is.
    joined_by g.P.Port.moves plan g.met.P.Port.joined c.args.home.now c.read_all.new.home c.adopt.new.home (seen_of c.args.wire.now)
    (seen_of c.close_restore.new.wire) (seen_of c.close_restore.new.wire) (Reading (intake_of job c.args.restore c.args.dump Nothing 0))
    (Adopting job c.args.dump) (or_aborting c.args.dump (brought job) c.adopt.result)
    (joined_by g.P.Port.moves plan g.met.P.Port.joined c.args.home.now c.read_all.new.home c.read_all.new.home (seen_of c.args.wire.now)
    (seen_of c.read_all.new.wire) (seen_of c.close_restore.new.wire) (Reading (intake_of job c.args.restore c.args.dump Nothing 0))
    (Closing job c.args.restore c.args.dump) (Adopting job c.args.dump) (c.in-Ok.ensures.goes plan job)
    (closed g.P.Port.moves g.met.P.Port.none plan c.read_all.new.home (seen_of c.read_all.new.wire) (seen_of c.close_restore.new.wire) job c.args.restore
    c.args.dump tt c.in-Ok-close_restore.ensures.asked))
    (c.adopt.ensures.goes (seen_of c.close_restore.new.wire) plan job is)

pub returns-clause-counted : goal.returns-clause-counted
returns-clause-counted g c =
    Counted-behind _ _ _ _ (still _ _ _ LinkFault c.in-Ok.ensures.counted)
    (Counted-behind _ _ _ _ (still _ _ _ F.Link c.in-Ok-close_restore.ensures.counted)
    (Counted-calm (faults_of c.close_restore.new.wire) (IsErrOf c.adopt.result LinkFault) (no_link c.adopt.result c.adopt.ensures.unfailed)))
