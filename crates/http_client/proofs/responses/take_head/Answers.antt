use Rattle.std.proofs.Common.{ap, rules}
use Rattle.http_wire.specs.Wires.{ahead_of, link_left}
use Rattle.http_client.proofs.ResponseLemmas.{TakesResponseHead-taken, longer-ahead}
use Rattle.http_client.proofs.responses.take_head.Goals as goal

pub returns-then-parts-most-clause-read : goal.returns-then-parts-most-clause-read
returns-then-parts-most-clause-read g c =
    let wire = c.args.wire.now in
    longer-ahead c.args.most (ahead_of wire) (link_left wire) c.args.len c.args.parts c.requires (search rules)

pub returns-clause-read : goal.returns-clause-read
returns-clause-read g c =
    let wire = c.args.wire.now in
    TakesResponseHead-taken c.args.most (ahead_of wire) _ (link_left wire) _ c.args.len c.args.parts c.requires (search rules) c.take.ensures.ahead
    (ap g.L.Faults.left c.take.ensures.link)
