use Rattle.std.proofs.Common.{◌≡◌, ℕ, List, Option}
use Rattle.http_wire.specs.Wires.{left_of, written_of, faults_of}
use Rattle.http_bodies.specs.declared.body.Body.{Body}
use Rattle.http_bodies.specs.declared.stop.BodyStop.{BodyStop}
use Rattle.http_bodies.specs.Bodies.{most_left}
use Rattle.browse_http.specs.Reading.{ReadsAll, ReadsSome}
use Rattle.browse_http.proofs.bodies.skip_rest.Given as goal

abbrev pub invariant-loop-piece : goal.invariant-loop-piece
invariant-loop-piece g l = record {
  all : (body' : Body) (left' : Option (List ℕ)) (got : List ℕ) → ReadsAll l.body body' (left_of l.wire) left' got
      → (got' : List ℕ) × ReadsAll l.initial.body body' (left_of l.initial.wire) left' got';
  some : (left' : Option (List ℕ)) (stop : BodyStop) → ReadsSome l.body (left_of l.wire) left' stop
      → ReadsSome l.initial.body (left_of l.initial.wire) left' stop;
  written : written_of l.wire ≡ written_of l.initial.wire;
  same : faults_of l.wire ≡ faults_of l.initial.wire;
}

abbrev pub decreases-loop-piece : goal.decreases-loop-piece
decreases-loop-piece g l = most_left l.body
