use Rattle.std.proofs.Common.{codes}
use Rattle.std.specs.Option.{option_copied}
use Rattle.serde_json.specs.Data.{string}
use Rattle.reply_bodies.specs.Objects.{json_count}
use Rattle.reply_bodies.specs.Replies.{kind_members, name_members}
use Rattle.reply_bodies.proofs.Tokens.{link_pushed}
use Rattle.reply_bodies.proofs.entries.push_link.Goals as goal

pub returns : goal.returns
returns c =
    rw (
      c.in_ok-push_count-3.ensures,
      c.in_ok-push_text.ensures,
      c.in_ok-push_count-2.ensures,
      c.in_ok-push_name.ensures,
      c.in_ok-push_kind.ensures,
      c.in_ok-push_count.ensures,
      c.from.ensures,
      c.gid.ensures,
      c.from-2.ensures,
      c.nanos.ensures.value,
      c.target_text.ensures,
      c.from-3.ensures,
      c.uid.ensures,
    )
    (link_pushed c.args.text.now (codes "gid", json_count c.args.link.now.attr.gid) (kind_members (codes "link") c.args.link.now.attr) (name_members (option_copied c.args.name))
    (codes "nanos", json_count c.args.link.now.attr.nanos) (codes "target", string c.args.link.now.target) (codes "uid", json_count c.args.link.now.attr.uid))
