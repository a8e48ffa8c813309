use Rattle.std.proofs.Common.{arith}
use Rattle.http_wire.specs.Wires.{ahead_of, link_left}
use Rattle.http_client.proofs.ResponseLemmas.{ends-zero}
use Rattle.http_client.proofs.responses.read_on.Goals as goal

pub returns-in-Ok-eq0-clause-read : goal.returns-in-Ok-eq0-clause-read
returns-in-Ok-eq0-clause-read g c =
    let wire = c.args.wire.now in
    λ most. ends-zero most (ahead_of wire) _ _ (link_left wire) _ c.in-Ok-eq0.field-0 c.at_end.result (omega arith)
    c.in-Ok-eq0.ensures.came c.in-Ok-eq0.ensures.end c.ahead.ensures c.at_end.ensures
