use Rattle.std.proofs.Common.{None, refl}
use Rattle.reply_bodies.specs.Replies.{node_data}
use Rattle.reply_bodies.proofs.entries.node_body.Goals as goal

pub returns : goal.returns
returns c = c.into_bytes.ensures (node_data None c.args.node.now) (rw (c.in_ok-push_node.ensures, c.new-text.ensures) refl)
