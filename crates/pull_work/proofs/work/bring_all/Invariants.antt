use Rattle.std.proofs.Common.{◌≡◌, ◌≤◌, drop}
use Rattle.http_wire.specs.Wires.{faults_of, seen_of}
use Rattle.pull_work.specs.Compared.{new_lines}
use Rattle.pull_work.specs.Script.{Bringing}
use Rattle.pull_work.specs.Runs.{Goes}
use Rattle.pull_work.proofs.work.bring_all.Given as goal

abbrev pub invariant-loop-line : goal.invariant-loop-line
invariant-loop-line g l = record {
  goes : Goes g.P.Port.moves l.plan l.fn.home l.home (seen_of l.fn.wire) (seen_of l.wire) (Bringing l.fn.base (new_lines l.next l.lines) 0)
      (Bringing l.newest (new_lines l.next (drop l.line-index l.lines)) l.done);
  few : l.done ≤ l.line-index;
  faultless : faults_of l.wire ≡ faults_of l.fn.wire;
}
