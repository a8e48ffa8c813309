use Rattle.std.proofs.Common.{ap}
use Rattle.stream_traits.specs.Told.{before}
use Rattle.http_wire.specs.Wires.{ahead_of}
use Rattle.browse_http.proofs.TalkLemmas.{ServesLink-made}
use Rattle.browse_http.proofs.connection.serve_connection.Goals as goal

pub returns : goal.returns
returns g c =
    let made = c.new-wire.ensures in
    let back = c.into_link.ensures in
    let served = c.serve_wire-end.ensures in
    let ahead = ahead_of c.serve_wire-end.new.wire in
    ServesLink-made _ _ _ _ _ _ _ _ _ _ _ _ _ _ _ ahead _ served.talk made.left made.written back.written back.sent made.faults back.faults
    (ap (before ahead) back.left) back.ahead served.sent served.counted
