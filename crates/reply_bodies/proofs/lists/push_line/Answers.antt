use Rattle.std.proofs.Common.{append_assoc, refl}
use Rattle.reply_bodies.proofs.lists.push_line.Goals as goal

pub returns : goal.returns
returns c =
    rw (
      c.in_ok-end_object.ensures,
      c.in_ok-push_count-3.ensures,
      c.in_ok-push_count-2.ensures,
      c.in_ok-push_text.ensures,
      c.in_ok-push_flag-2.ensures,
      c.in_ok-push_flag.ensures,
      c.in_ok-push_count.ensures,
      c.in_ok-begin_object.ensures,
      c.kind_text.ensures,
      c.from.ensures,
    )
    (simp append_assoc refl)
