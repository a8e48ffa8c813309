-- What becomes of the table at the index, by whether it is deleted and whether it is relative to a deleted one.
use Rattle.std.proofs.Common.{Some, None, drop, refl, sym, ap, ◌∙◌}
use Rattle.backup_delete.specs.Trees.{tree_of, needs_fold}
use Rattle.backup_delete.proofs.Steps.{line_at, line_is, change_step, gone_change, same_change, new_change, walk_gone, walk_here}
use Rattle.backup_delete.proofs.walk.step.Goals as goal

pub returns-then-is_gone-clause-change : goal.returns-then-is_gone-clause-change
returns-then-is_gone-clause-change c =
    let line = line_at c.args.lines.now c.args.index in
    let found = line_is c.args.lines.now c.args.index c.requires.within in
    change_step c.args.numbers.now c.args.lines.now c.args.tables.now c.args.index line c.requires.within c.requires.same found (Some c.new.result)
    (ap Some c.new.ensures ∙ gone_change c.args.numbers.now c.args.lines.now c.args.tables.now c.args.index line c.requires.within c.requires.same found c.if-is_gone.ensures)

pub returns-then-is_gone-clause-walk : goal.returns-then-is_gone-clause-walk
returns-then-is_gone-clause-walk c =
    walk_gone c.args.numbers.now c.args.lines.now c.args.tables.now c.args.index (line_at c.args.lines.now c.args.index) c.requires.within c.requires.same
    (line_is c.args.lines.now c.args.index c.requires.within) c.args.next.now c.requires.walk c.if-is_gone.ensures

pub returns-then-not-needs_fold-clause-change : goal.returns-then-not-needs_fold-clause-change
returns-then-not-needs_fold-clause-change c =
    let line = line_at c.args.lines.now c.args.index in
    let found = line_is c.args.lines.now c.args.index c.requires.within in
    change_step c.args.numbers.now c.args.lines.now c.args.tables.now c.args.index line c.requires.within c.requires.same found None
    (same_change c.args.numbers.now c.args.lines.now c.args.tables.now c.args.index line c.requires.within c.requires.same found c.if-is_gone.ensures
    (c.if-not-needs_fold.ensures ∙ ap (needs_fold c.args.numbers.now line) c.split_at.ensures.back))

pub returns-clause-change : goal.returns-clause-change
returns-clause-change c =
    let line = line_at c.args.lines.now c.args.index in
    let found = line_is c.args.lines.now c.args.index c.requires.within in
    change_step c.args.numbers.now c.args.lines.now c.args.tables.now c.args.index line c.requires.within c.requires.same found (Some c.new-2.result)
    (ap Some c.new-2.ensures ∙ new_change c.args.numbers.now c.args.lines.now c.args.tables.now c.args.index line c.requires.within c.requires.same found
    (tree_of (drop c.args.index c.args.lines.now) (drop c.args.index c.args.tables.now))
    (tree_of (drop c.args.next.now c.args.lines.now) (drop c.args.next.now c.args.tables.now)) c.in_ok-table.table c.if-is_gone.ensures
    (c.if-not-needs_fold.ensures ∙ ap (needs_fold c.args.numbers.now line) c.split_at.ensures.back)
    refl (sym c.requires.walk.tree) c.in_ok-table.ensures.table)

pub returns-then-not-needs_fold-clause-walk : goal.returns-then-not-needs_fold-clause-walk
returns-then-not-needs_fold-clause-walk c =
    walk_here c.args.numbers.now c.args.lines.now c.args.tables.now c.args.index (line_at c.args.lines.now c.args.index) c.requires.within c.requires.same
    (line_is c.args.lines.now c.args.index c.requires.within) _ c.if-is_gone.ensures refl

pub returns-clause-walk : goal.returns-clause-walk
returns-clause-walk c =
    walk_here c.args.numbers.now c.args.lines.now c.args.tables.now c.args.index (line_at c.args.lines.now c.args.index) c.requires.within c.requires.same
    (line_is c.args.lines.now c.args.index c.requires.within) _ c.if-is_gone.ensures refl
