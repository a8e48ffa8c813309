use Rattle.std.proofs.Common.{codes}
use Rattle.std.specs.Option.{option_copied}
use Rattle.reply_bodies.specs.Objects.{json_count}
use Rattle.reply_bodies.specs.Replies.{kind_members, name_members}
use Rattle.reply_bodies.proofs.Tokens.{dir_pushed}
use Rattle.reply_bodies.proofs.entries.push_dir.Goals as goal

pub returns : goal.returns
returns c =
    rw (
      c.in_ok-push_count-3.ensures,
      c.in_ok-push_count-2.ensures,
      c.in_ok-push_name.ensures,
      c.in_ok-push_kind.ensures,
      c.in_ok-push_count.ensures,
      c.from.ensures,
      c.gid.ensures,
      c.from-2.ensures,
      c.nanos.ensures.value,
      c.from-3.ensures,
      c.uid.ensures,
    )
    (dir_pushed c.args.text.now (codes "gid", json_count c.args.dir.now.attr.gid) (kind_members (codes "dir") c.args.dir.now.attr) (name_members (option_copied c.args.name))
    (codes "nanos", json_count c.args.dir.now.attr.nanos) (codes "uid", json_count c.args.dir.now.attr.uid))
