use Rattle.std.proofs.Common.{arith, drop}
use Rattle.std.proofs.lemmas.List.{drop_all}
use Rattle.reply_bodies.specs.Replies.{entry_data}
use Rattle.reply_bodies.proofs.Tokens.{listed}
use Rattle.reply_bodies.proofs.entries.push_entries.Goals as goal

pub returns : goal.returns
returns c =
    listed entry_data c.args.entries.now (drop c.loop-entry.entry-index c.args.entries.now) c.args.text.now c.loop-entry.text c.end_array.new.self
    (drop_all c.loop-entry.entry-index c.args.entries.now (omega (arith, c.loop-entry-test.false)))
    c.loop-entry.invariant c.in_ok-end_array.ensures
