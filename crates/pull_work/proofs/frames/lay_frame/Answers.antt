use Rattle.pull_work.specs.Script.{intake_of}
use Rattle.pull_work.proofs.PartLaws.{frame_laid, frame_unlaid}
use Rattle.pull_work.proofs.frames.lay_frame.Goals as goal

pub returns-in-Ok-clause-goes : goal.returns-in-Ok-clause-goes
returns-in-Ok-clause-goes g c = λ seen plan job restore read.
    frame_laid g.P.Port.moves g.met.P.Port.none plan c.args.home.now c.take.new.port seen
    (intake_of job restore c.args.dump c.args.laying.now read) c.args.frame c.take.new.self c.in-Ok.ensures.ok

pub returns-in-Err-clause-goes : goal.returns-in-Err-clause-goes
returns-in-Err-clause-goes g c = λ seen plan job restore read.
    frame_unlaid g.P.Port.moves g.met.P.Port.none plan c.args.home.now c.take.new.port seen
    (intake_of job restore c.args.dump c.args.laying.now read) c.args.frame c.in-Err.fault c.lay_end.result c.lay_end.ensures c.in-Err.ensures.err
