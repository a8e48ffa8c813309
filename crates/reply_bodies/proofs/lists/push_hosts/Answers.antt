use Rattle.std.proofs.Common.{arith, drop}
use Rattle.std.proofs.lemmas.List.{drop_all}
use Rattle.serde_json.specs.Data.{string}
use Rattle.reply_bodies.proofs.Tokens.{listed}
use Rattle.reply_bodies.proofs.lists.push_hosts.Goals as goal

pub returns : goal.returns
returns c =
    listed string c.args.names.now (drop c.loop-name.name-index c.args.names.now) c.args.text.now c.loop-name.text c.end_array.new.self
    (drop_all c.loop-name.name-index c.args.names.now (omega (arith, c.loop-name-test.false)))
    c.loop-name.invariant c.in_ok-end_array.ensures
