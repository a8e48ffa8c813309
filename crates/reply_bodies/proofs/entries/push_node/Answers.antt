use Rattle.std.specs.Option.{option_copied}
use Rattle.reply_bodies.specs.Replies.{node_members}
use Rattle.reply_bodies.proofs.Tokens.{object_pushed}
use Rattle.reply_bodies.proofs.entries.push_node.Goals as goal

pub returns : goal.returns
returns c =
    rw (c.in_ok-end_object.ensures, c.in_ok-push_members.ensures, c.in_ok-begin_object.ensures)
    (object_pushed c.args.text.now (node_members (option_copied c.args.name) c.args.node.now))
