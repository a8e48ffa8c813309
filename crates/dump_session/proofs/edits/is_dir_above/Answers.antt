-- The last put before the path tells of its directory where it lies within it.
use Rattle.std.proofs.Common.{◌≡◌, false, Option, Some, None, is_some, refl, sym, ap, ◌∙◌}
use Rattle.std.specs.Cmp.Lexicographic.{bytes_decides}
use Rattle.std.proofs.lemmas.Bool.{true≢false}
use Rattle.attr_records.specs.Paths.{is_within}
use Rattle.attr_records.specs.TreeLaws.{lookup-node_at}
use Rattle.attr_tables.specs.Records.{is_dir}
use Rattle.dump_session.proofs.EditLaws.{parent_before, not_put}
use Rattle.dump_session.proofs.Sessions.{dir_left, dir_put, dir_over}
use Rattle.dump_session.proofs.edits.is_dir_above.Goals as goal

none_from_test : {X : Type 0} (found : Option X) → is_some found ≡ false → found ≡ None
none_from_test None e = refl
none_from_test (Some x) e = absurd (true≢false e)

pub is_dir_left-requires-clause-above : goal.is_dir_left-requires-clause-above
is_dir_left-requires-clause-above c = (parent_before c.args.path.now c.args.directory.now c.requires.is_parent).0

pub is_dir_left-requires-then-not-is_within-clause-above : goal.is_dir_left-requires-then-not-is_within-clause-above
is_dir_left-requires-then-not-is_within-clause-above c = (parent_before c.args.path.now c.args.directory.now c.requires.is_parent).0

pub returns-in-None : goal.returns-in-None
returns-in-None c = λ is_tree.
    let above = parent_before c.args.path.now c.args.directory.now c.requires.is_parent in
    dir_left c.args.base.now c.args.removed.now.entries c.args.puts.now.entries c.args.directory.now _ c.requires.base_order c.requires.puts_order
    (sym (lookup-node_at c.args.puts.now.entries c.args.directory.now) ∙ (c.range.ensures.in_range tt).5 c.in-None.ensures.steps.0 c.args.directory.now (tt, above.1)) c.is_dir_left.ensures

pub returns-then-not-is_within : goal.returns-then-not-is_within
returns-then-not-is_within c = λ is_tree.
    let puts = c.args.puts.now.entries in
    let above = parent_before c.args.path.now c.args.directory.now c.requires.is_parent in
    let last = (c.range.ensures.in_range tt).3 _ _ c.in-Some.ensures.steps in
    let outside = ap (is_within c.args.directory.now) (sym c.as_slice.ensures.value) ∙ sym c.if-not-is_within.ensures in
    dir_left c.args.base.now c.args.removed.now.entries puts c.args.directory.now _ c.requires.base_order c.requires.puts_order
    (none_from_test _ (not_put puts c.args.directory.now c.args.path.now c.in-Some.last.now above.0 above.1 last.0.1 outside
    (λ asked early there. (c.range.ensures.in_range tt).4 _ _ c.in-Some.ensures.steps asked (tt, early) (ap is_some (lookup-node_at puts asked) ∙ there))))
    c.is_dir_left-then-not-is_within.ensures

pub returns-then-eq : goal.returns-then-eq
returns-then-eq c = λ is_tree.
    let puts = c.args.puts.now.entries in
    let last = (c.range.ensures.in_range tt).3 _ _ c.in-Some.ensures.steps in
    dir_put c.args.base.now c.args.removed.now.entries puts c.args.directory.now c.in-Some.last.now c.in-Some.node.now _ c.requires.base_order c.requires.puts_order c.requires.no_marks
    (sym (lookup-node_at puts c.in-Some.last.now) ∙ last.1)
    (sym c.as_slice-in-Some.ensures.value ∙ (bytes_decides c.as_slice-in-Some.result.now c.args.directory.now).0 (sym c.if-eq.ensures))
    (c.is_dir.ensures ∙ ap is_dir c.as_record.ensures.value)

pub returns-else-eq : goal.returns-else-eq
returns-else-eq c = λ is_tree.
    let puts = c.args.puts.now.entries in
    let last = (c.range.ensures.in_range tt).3 _ _ c.in-Some.ensures.steps in
    dir_over c.args.base.now c.args.removed.now.entries puts c.args.directory.now c.in-Some.last.now c.in-Some.node.now c.requires.base_order c.requires.puts_order c.requires.no_marks is_tree
    (sym (lookup-node_at puts c.in-Some.last.now) ∙ last.1)
    (ap (is_within c.args.directory.now) (sym c.as_slice.ensures.value) ∙ sym c.if-not-is_within.ensures)
    (λ same. true≢false (sym ((bytes_decides c.as_slice-in-Some.result.now c.args.directory.now).1 (c.as_slice-in-Some.ensures.value ∙ same)) ∙ sym c.if-eq.ensures))
