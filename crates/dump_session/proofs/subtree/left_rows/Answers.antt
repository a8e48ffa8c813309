use Rattle.std.proofs.Common.{◌∷◌, ◌+◌, drop, sym, ap, ◌∙◌}
use Rattle.dump_session.proofs.SubtreeLaws.{first_of, left_step}
use Rattle.dump_session.proofs.subtree.left_rows.Goals as goal

pub loop-row-preserved : goal.loop-row-preserved
loop-row-preserved c =
    left_step c.args.removed.now.entries c.loop-row.rows.items c.push_left.new.rows.items _ c.row-item.result _ _
    (first_of c.args.base.now c.loop-row.row-index c.row-item.result c.loop-row-test.true
    ∙ ap (λ row. row ∷ drop (c.loop-row.row-index + 1) c.args.base.now) (sym c.row-item.is))
    c.loop-row.invariant c.in_ok-push_left.ensures
