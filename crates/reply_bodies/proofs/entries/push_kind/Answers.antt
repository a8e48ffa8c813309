use Rattle.std.proofs.Common.{ap, ◌∙◌}
use Rattle.reply_bodies.specs.Replies.{octal}
use Rattle.reply_bodies.proofs.Tokens.{kind_pushed}
use Rattle.reply_bodies.proofs.entries.push_kind.Goals as goal

pub returns : goal.returns
returns c =
    kind_pushed c.args.text.now c.push_text.new.self c.push_text-2.new.self c.push_time.new.text c.args.kind.now c.digits_text.result.now
    c.args.attr.now c.in_ok-push_text.ensures c.in_ok-push_text-2.ensures (c.digits_text.ensures ∙ ap octal c.mode-mode.ensures.value)
    c.in_ok-push_time.ensures
