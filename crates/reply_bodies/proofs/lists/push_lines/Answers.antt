use Rattle.std.proofs.Common.{arith, drop}
use Rattle.std.proofs.lemmas.List.{drop_all}
use Rattle.reply_bodies.specs.Replies.{line_data}
use Rattle.reply_bodies.proofs.Tokens.{listed}
use Rattle.reply_bodies.proofs.lists.push_lines.Goals as goal

pub returns : goal.returns
returns c =
    listed line_data c.args.lines.now (drop c.loop-line.line-index c.args.lines.now) c.args.text.now c.loop-line.text c.end_array.new.self
    (drop_all c.loop-line.line-index c.args.lines.now (omega (arith, c.loop-line-test.false)))
    c.loop-line.invariant c.in_ok-end_array.ensures
