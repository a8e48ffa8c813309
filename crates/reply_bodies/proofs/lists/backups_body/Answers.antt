use Rattle.std.proofs.Common.{map}
use Rattle.reply_bodies.specs.Objects.{json_list}
use Rattle.reply_bodies.specs.Replies.{line_data, dump_data, backups_data}
use Rattle.reply_bodies.proofs.Tokens.{backups_pushed}
use Rattle.reply_bodies.proofs.lists.backups_body.Goals as goal

pub returns : goal.returns
returns c =
    c.into_bytes.ensures (backups_data c.args.lines.now c.args.next c.args.dump)
    (rw (
      c.in_ok-end_object.ensures,
      c.in_ok-push_count.ensures,
      c.in_ok-push_dump.ensures,
      c.in_ok-push_key-2.ensures,
      c.in_ok-push_lines.ensures,
      c.in_ok-push_key.ensures,
      c.in_ok-begin_object.ensures,
      c.new-text.ensures,
      c.as_slice.ensures,
    )
    (backups_pushed (json_list (map line_data c.args.lines.now)) (dump_data c.args.dump) c.args.next))
