use Rattle.std.proofs.Common.{◌≡◌, ◌+◌, refl, sym, ◌∙◌, subst, arith}
use Rattle.http_wire.specs.Wires.{seen_of}
use Rattle.frame_puts.specs.declared.laying.Laying.TheVariants.{Nothing}
use Rattle.pull_work.specs.declared.ends.PullEnd.TheVariants.{PeerForeign, LinkFault}
use Rattle.pull_work.specs.Script.{Phase, Reading, Closing, Aborting, frame_limit, intake_of}
use Rattle.pull_work.specs.Runs.{Goes}
use Rattle.pull_work.proofs.CountLaws.{Counted-calm, Counted-behind, still}
use Rattle.pull_work.proofs.GoesLaws.{stays, joined_by}
use Rattle.pull_work.proofs.PartLaws.{taken_on, taken_last, read_out}
use Rattle.pull_work.proofs.frames.read_all.Goals as goal

pub loop-read-init : goal.loop-read-init
loop-read-init g c = record {
  goes = λ plan job. stays g.P.Port.moves plan g.met.P.Port.none c.args.home.now (seen_of c.args.wire.now)
      (Reading (intake_of job c.args.restore c.args.dump Nothing 0));
  faultless = refl;
}

pub returns-in-Err-clause-goes : goal.returns-in-Err-clause-goes
returns-in-Err-clause-goes g c = λ plan job.
    joined_by g.P.Port.moves plan g.met.P.Port.joined c.args.home.now c.loop-read.home c.read_one.new.home (seen_of c.args.wire.now) (seen_of c.loop-read.wire)
    (seen_of c.read_one.new.wire) (Reading (intake_of job c.args.restore c.args.dump Nothing 0))
    (Reading (intake_of job c.args.restore c.args.dump c.loop-read.laying c.loop-read._read)) (Aborting c.args.dump c.in-Err.end)
    (c.loop-read.invariant.goes plan job) (c.in-Err.ensures.goes plan job c.loop-read._read c.loop-read-test.true)

pub returns-in-Err-clause-counted : goal.returns-in-Err-clause-counted
returns-in-Err-clause-counted g c = Counted-behind _ _ _ _ c.loop-read.invariant.faultless c.in-Err.ensures.counted

pub returns-then-is_ended-clause-goes : goal.returns-then-is_ended-clause-goes
returns-then-is_ended-clause-goes g c = λ plan job.
    let intake = intake_of job c.args.restore c.args.dump c.loop-read.laying c.loop-read._read in
    joined_by g.P.Port.moves plan g.met.P.Port.joined c.args.home.now c.loop-read.home c.read_one.new.home (seen_of c.args.wire.now) (seen_of c.loop-read.wire)
    (seen_of c.read_one.new.wire) (Reading (intake_of job c.args.restore c.args.dump Nothing 0)) (Reading intake) (Closing job c.args.restore c.args.dump)
    (c.loop-read.invariant.goes plan job)
    (subst (λ (phase : Phase). Goes g.P.Port.moves plan c.loop-read.home c.read_one.new.home (seen_of c.loop-read.wire) (seen_of c.read_one.new.wire)
    (Reading intake) phase) (taken_last intake c.read_one.new.laying (sym c.is_ended.ensures ∙ c.if-is_ended.true))
    (c.in-Ok.ensures.goes plan job c.loop-read._read c.loop-read-test.true))

pub returns-then-is_ended-clause-counted : goal.returns-then-is_ended-clause-counted
returns-then-is_ended-clause-counted g c = Counted-behind _ _ _ _ c.loop-read.invariant.faultless c.in-Ok.ensures.counted

pub loop-read-preserved : goal.loop-read-preserved
loop-read-preserved g c = record {
  goes = λ plan job.
      let intake = intake_of job c.args.restore c.args.dump c.loop-read.laying c.loop-read._read in
      joined_by g.P.Port.moves plan g.met.P.Port.joined c.args.home.now c.loop-read.home c.read_one.new.home (seen_of c.args.wire.now)
      (seen_of c.loop-read.wire) (seen_of c.read_one.new.wire) (Reading (intake_of job c.args.restore c.args.dump Nothing 0)) (Reading intake)
      (Reading (record intake { laying = c.read_one.new.laying; read = c.loop-read._read + 1 }))
      (c.loop-read.invariant.goes plan job)
      (subst (λ (phase : Phase). Goes g.P.Port.moves plan c.loop-read.home c.read_one.new.home (seen_of c.loop-read.wire) (seen_of c.read_one.new.wire)
      (Reading intake) phase) (taken_on intake c.read_one.new.laying (sym c.is_ended.ensures ∙ c.if-is_ended.false))
      (c.in-Ok.ensures.goes plan job c.loop-read._read c.loop-read-test.true));
  faultless = still _ _ _ LinkFault c.in-Ok.ensures.counted ∙ c.loop-read.invariant.faultless;
}

pub returns-clause-goes : goal.returns-clause-goes
returns-clause-goes g c = λ plan job.
    let intake = intake_of job c.args.restore c.args.dump c.loop-read.laying c.loop-read._read in
    let all : c.loop-read._read ≡ frame_limit = omega arith in
    joined_by g.P.Port.moves plan g.met.P.Port.joined c.args.home.now c.loop-read.home c.loop-read.home (seen_of c.args.wire.now) (seen_of c.loop-read.wire)
    (seen_of c.loop-read.wire) (Reading (intake_of job c.args.restore c.args.dump Nothing 0)) (Reading intake) (Aborting c.args.dump PeerForeign)
    (c.loop-read.invariant.goes plan job) (read_out g.P.Port.moves g.met.P.Port.none plan c.loop-read.home (seen_of c.loop-read.wire) intake all)

pub returns-clause-counted : goal.returns-clause-counted
returns-clause-counted g c = Counted-behind _ _ _ _ c.loop-read.invariant.faultless (Counted-calm _ _ (λ e. absurd (cc)))
