-- What is seen of a port.
use Rattle.std.specs.Prelude.{List}
use Rattle.stream_traits.specs.declared.link.Faults.{Ghosts}
use Rattle.http_wire.specs.Wires.{seen_of}
use Rattle.office_model.specs.Step.{Call}
use Rattle.remote_port.specs.declared.codec.Codec.{Ghosts as CodecGhosts}
use Rattle.remote_port.specs.declared.port.RemotePort.{RemotePort}
use Rattle.remote_port.specs.Speaks.{Connection, Speaks}

abbrev pub connection_of : {L C : Type 0} {l : Ghosts L} {c : CodecGhosts C} → RemotePort L C l c → Connection
connection_of p = record { seen = seen_of p.wire; end = p.end }

-- these calls lead from one state of the port to another
abbrev pub Moves : {L C : Type 0} {l : Ghosts L} {c : CodecGhosts C} → RemotePort L C l c → List Call → RemotePort L C l c → Type 0
Moves {c = c} p calls q = Speaks c.may c.request_of c.refusal_of c.says (connection_of p) (connection_of q) calls
