use Rattle.std.proofs.Common.{◌≡◌}
use Rattle.http_wire.specs.Wires.{faults_of, seen_of}
use Rattle.frame_puts.specs.declared.laying.Laying.TheVariants.{Nothing}
use Rattle.pull_work.specs.declared.plan.Plan.{Plan}
use Rattle.pull_work.specs.Script.{Job, Reading, intake_of}
use Rattle.pull_work.specs.Runs.{Goes}
use Rattle.pull_work.proofs.frames.read_all.Given as goal

abbrev pub invariant-loop-read : goal.invariant-loop-read
invariant-loop-read g l = record {
  goes : (plan : Plan) (job : Job)
      → Goes g.P.Port.moves plan l.fn.home l.home (seen_of l.fn.wire) (seen_of l.wire) (Reading (intake_of job l.restore l.dump Nothing 0))
      (Reading (intake_of job l.restore l.dump l.laying l._read));
  faultless : faults_of l.wire ≡ faults_of l.fn.wire;
}
