use Rattle.std.proofs.Common.{refl}
use Rattle.reply_bodies.specs.Replies.{entries_data}
use Rattle.reply_bodies.proofs.entries.entries_body.Goals as goal

pub returns : goal.returns
returns c =
    c.into_bytes.ensures (entries_data c.args.entries.now)
    (rw (c.in_ok-end_object.ensures, c.in_ok-push_entries.ensures, c.in_ok-push_key.ensures, c.in_ok-begin_object.ensures, c.new-text.ensures, c.as_slice.ensures) refl)
