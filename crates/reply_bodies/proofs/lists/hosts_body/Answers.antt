use Rattle.std.proofs.Common.{refl}
use Rattle.reply_bodies.specs.Replies.{hosts_data}
use Rattle.reply_bodies.proofs.lists.hosts_body.Goals as goal

pub returns : goal.returns
returns c =
    c.into_bytes.ensures (hosts_data c.args.names.now)
    (rw (c.in_ok-end_object.ensures, c.in_ok-push_hosts.ensures, c.in_ok-push_key.ensures, c.in_ok-begin_object.ensures, c.new-text.ensures, c.as_slice.ensures) refl)
