use Rattle.std.specs.Prelude.{IsErrOf}
use Rattle.http_wire.specs.Wires.{faults_of, seen_of}
use Rattle.peer_exchange.specs.declared.fault.PeerFault.TheVariants as F
use Rattle.pull_work.specs.declared.ends.PullEnd.TheVariants.{LinkFault}
use Rattle.pull_work.specs.Script.{Reading, Taking, intake_of, taken}
use Rattle.pull_work.specs.Parts.{or_aborting}
use Rattle.pull_work.proofs.CountLaws.{Counted-calm, Counted-behind, Counted-end, Counted-err, still, no_link}
use Rattle.pull_work.proofs.GoesLaws.{joined_by}
use Rattle.pull_work.proofs.PartLaws.{frame_read, frame_unread}
use Rattle.pull_work.proofs.frames.read_one.Goals as goal

pub returns-in-Ok-clause-goes : goal.returns-in-Ok-clause-goes
returns-in-Ok-clause-goes g c = λ plan job read less.
    let intake = intake_of job c.args.restore c.args.dump c.args.laying.now read in
    joined_by g.P.Port.moves plan g.met.P.Port.joined c.args.home.now c.args.home.now c.lay_frame.new.home (seen_of c.args.wire.now)
    (seen_of c.next_frame.new.wire) (seen_of c.next_frame.new.wire) (Reading intake) (Taking intake c.in-Ok.frame)
    (or_aborting c.args.dump (taken intake c.lay_frame.new.laying) c.lay_frame.result)
    (frame_read g.P.Port.moves g.met.P.Port.none plan c.args.home.now (seen_of c.args.wire.now) (seen_of c.next_frame.new.wire) intake c.in-Ok.frame less
    c.in-Ok.ensures.asked)
    (c.lay_frame.ensures.goes (seen_of c.next_frame.new.wire) plan job c.args.restore read)

pub returns-in-Ok-clause-counted : goal.returns-in-Ok-clause-counted
returns-in-Ok-clause-counted g c =
    Counted-behind (faults_of c.args.wire.now) (faults_of c.next_frame.new.wire) (faults_of c.next_frame.new.wire) (IsErrOf c.lay_frame.result LinkFault)
    (still _ _ c.in-Ok.frame F.Link c.in-Ok.ensures.counted)
    (Counted-calm (faults_of c.next_frame.new.wire) (IsErrOf c.lay_frame.result LinkFault) (no_link c.lay_frame.result c.lay_frame.ensures.unfailed))

pub returns-in-Err-clause-goes : goal.returns-in-Err-clause-goes
returns-in-Err-clause-goes g c = λ plan job read less.
    frame_unread g.P.Port.moves g.met.P.Port.none plan c.args.home.now (seen_of c.args.wire.now) (seen_of c.next_frame.new.wire)
    (intake_of job c.args.restore c.args.dump c.args.laying.now read) c.in-Err.fault c.end_by.result less c.end_by.ensures c.in-Err.ensures.asked

pub returns-in-Err-clause-counted : goal.returns-in-Err-clause-counted
returns-in-Err-clause-counted g c =
    Counted-err (faults_of c.args.wire.now) (faults_of c.next_frame.new.wire) c.end_by.result
    (Counted-end (faults_of c.args.wire.now) (faults_of c.next_frame.new.wire) c.in-Err.fault c.end_by.result c.end_by.ensures c.in-Err.ensures.counted)
