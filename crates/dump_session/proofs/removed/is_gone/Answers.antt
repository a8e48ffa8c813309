-- Each removed path at or before the path is at or before the last of them.
use Rattle.std.proofs.Common.{ap, sym, ◌∙◌}
use Rattle.std.proofs.Common.{is_some}
use Rattle.attr_records.specs.Paths.{is_within}
use Rattle.attr_records.specs.TreeLaws.{lookup-node_at}
use Rattle.dump_session.proofs.RemovedLaws.{none_gone, last_gone}
use Rattle.dump_session.proofs.removed.is_gone.Goals as goal

pub returns-in-None : goal.returns-in-None
returns-in-None c =
    let entries = c.args.removed.now.entries in
    sym (none_gone entries c.args.path.now c.args.asked.now c.requires.above (λ by early.
    ap is_some (sym (lookup-node_at entries by) ∙ (c.range.ensures.in_range tt).5 c.in-None.ensures.steps.0 by (tt, early))))

pub returns-in-Some : goal.returns-in-Some
returns-in-Some c =
    let entries = c.args.removed.now.entries in
    let last = (c.range.ensures.in_range tt).3 _ _ c.in-Some.ensures.steps in
    c.is_within.ensures ∙ ap (λ p. is_within p c.args.asked.now) c.as_slice.ensures.value
    ∙ last_gone entries c.args.path.now c.args.asked.now c.in-Some.last.now c.requires.apart c.requires.above
    (ap is_some (sym (lookup-node_at entries c.in-Some.last.now) ∙ last.1)) last.0.1
    (λ by early there. (c.range.ensures.in_range tt).4 _ _ c.in-Some.ensures.steps by (tt, early) (ap is_some (lookup-node_at entries by) ∙ there))
