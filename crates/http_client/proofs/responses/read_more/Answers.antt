use Rattle.std.proofs.Common.{rules}
use Rattle.http_wire.specs.Wires.{ahead_of, link_left}
use Rattle.http_client.proofs.ResponseLemmas.{foreign-ahead, longest-ahead}
use Rattle.http_client.proofs.responses.read_more.Goals as goal

pub returns-in-Foreign-clause-read : goal.returns-in-Foreign-clause-read
returns-in-Foreign-clause-read g c =
    let wire = c.args.wire.now in
    foreign-ahead (ahead_of wire) _ (link_left wire) c.ahead.ensures c.in-Foreign.ensures

pub returns-in-TooLong-clause-read : goal.returns-in-TooLong-clause-read
returns-in-TooLong-clause-read g c =
    let wire = c.args.wire.now in
    longest-ahead c.args.most (ahead_of wire) _ (link_left wire) (search rules) c.ahead.ensures c.in-TooLong.ensures

pub returns-in-Unfinished-clause-read : goal.returns-in-Unfinished-clause-read
returns-in-Unfinished-clause-read g c = c.read_on.ensures.read c.args.most
