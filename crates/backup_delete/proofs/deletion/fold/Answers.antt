-- The tables are those of the shorter list, and the counts their differences.
use Rattle.std.proofs.Common.{◌+◌, ◌<◌, ◌≤◌, ◌^◌, ℕ, List, sym, ap, subst, ◌∙◌, arith}
use Rattle.backup_rules.specs.declared.lines.Line.{Line}
use Rattle.backup_index.specs.Lines.{IsSound}
use Rattle.ref_counts.specs.Numbers.{total, capped}
use Rattle.ref_counts.specs.NumberLaws.{capped-few}
use Rattle.ref_counts.specs.Stored.{stored}
use Rattle.backup_delete.specs.Trees.{backups}
use Rattle.backup_delete.specs.Folds.{left_trees, folded_tables, Change, change_at, changed, table_at, added_tables, taken_tables}
use Rattle.backup_delete.specs.FoldLaws.{folded-stored}
use Rattle.backup_delete.specs.CountedLaws.{folded-total, taken-within}
use Rattle.backup_delete.specs.TableLaws.{changed-left, left-sound}
use Rattle.backup_delete.proofs.AddedLaws.{added-within}
use Rattle.backup_delete.proofs.deletion.fold.Goals as goal

pub returns-clause-stored : goal.returns-clause-stored
returns-clause-stored c = λ trees same whole is.
    ap (folded_tables c.args.numbers.now c.args.lines.now) is
    ∙ folded-stored c.args.numbers.now c.args.lines.now trees same whole
    ∙ ap (λ (lines : List Line). stored (backups lines (left_trees c.args.numbers.now c.args.lines.now trees))) (sym c.in_ok-left.ensures)

below : (a b : ℕ) → a ≤ b → b < 2 ^ 64 → a < 2 ^ 64
below a b less small = omega (arith, less, small)

pub returns-clause-counted : goal.returns-clause-counted
returns-clause-counted c = λ id small.
    let taken = total id (taken_tables c.args.numbers.now c.args.lines.now c.args.tables.now) in
    let less : taken < 2 ^ 64 =
    below taken (total id c.args.tables.now) (taken-within id c.args.numbers.now c.args.lines.now c.args.tables.now) small in
    let few : total id (added_tables c.in_ok-all.all.items) < 2 ^ 64 =
    subst (λ (all : List Change). total id (added_tables all) < 2 ^ 64) (sym c.in_ok-all.ensures)
    (below _ taken (added-within id c.args.numbers.now c.args.lines.now c.args.tables.now c.in_order.ensures) less) in
    ap (λ n. total id (folded_tables c.args.numbers.now c.args.lines.now c.args.tables.now) + n)
    (c.in_ok-taken.ensures id ∙ capped-few taken less)
    ∙ folded-total id c.args.numbers.now c.args.lines.now c.args.tables.now c.requires
    ∙ ap (λ n. total id c.args.tables.now + n)
    (ap (λ (all : List Change). total id (added_tables all)) (sym c.in_ok-all.ensures) ∙ sym (capped-few (total id (added_tables c.in_ok-all.all.items)) few)
    ∙ ap (λ (all : List Change). capped (total id (added_tables all))) (sym c.as_slice.ensures.value) ∙ sym (c.in_ok-added.ensures id))

pub returns-clause-files : goal.returns-clause-files
returns-clause-files c = λ next sound number.
    ap (λ (all : List Change). changed (change_at all number) (table_at c.args.lines.now c.args.tables.now number)) c.in_ok-all.ensures
    ∙ changed-left c.args.numbers.now number next c.args.lines.now c.args.tables.now sound
    ∙ ap (λ (lines : List Line). table_at lines (folded_tables c.args.numbers.now c.args.lines.now c.args.tables.now) number) (sym c.in_ok-left.ensures)

pub returns-clause-sound : goal.returns-clause-sound
returns-clause-sound c = λ next sound.
    subst (λ (lines : List Line). IsSound next lines) (sym c.in_ok-left.ensures) (left-sound c.args.numbers.now next c.args.lines.now sound)
