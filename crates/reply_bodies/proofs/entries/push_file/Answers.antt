use Rattle.std.proofs.Common.{codes}
use Rattle.std.specs.Option.{option_copied}
use Rattle.reply_bodies.specs.Objects.{json_count}
use Rattle.reply_bodies.specs.Replies.{kind_members, name_members}
use Rattle.reply_bodies.proofs.Tokens.{file_pushed}
use Rattle.reply_bodies.proofs.entries.push_file.Goals as goal

pub returns : goal.returns
returns c =
    rw (
      c.in_ok-push_count-5.ensures,
      c.in_ok-push_count-4.ensures,
      c.in_ok-push_count-3.ensures,
      c.in_ok-push_name.ensures,
      c.in_ok-push_kind.ensures,
      c.in_ok-push_count-2.ensures,
      c.in_ok-push_count.ensures,
      c.from.ensures,
      c.gid.ensures,
      c.from-2.ensures,
      c.from-3.ensures,
      c.nanos.ensures.value,
      c.from-4.ensures,
      c.uid.ensures,
    )
    (file_pushed c.args.text.now (codes "gid", json_count c.args.file.now.attr.gid) (codes "group", json_count c.args.file.now.group)
    (kind_members (codes "file") c.args.file.now.attr) (name_members (option_copied c.args.name))
    (codes "nanos", json_count c.args.file.now.attr.nanos) (codes "size", json_count c.args.file.now.size) (codes "uid", json_count c.args.file.now.attr.uid))
