-- What the part alone tells is what all tables tell.
use Rattle.std.proofs.Common.{List, sym, ap, ◌∙◌}
use Rattle.merge_view.specs.Views.{Rows}
use Rattle.ref_counts.specs.Numbers.{total, capped}
use Rattle.backup_delete.specs.Folds.{changes, taken_tables}
use Rattle.backup_delete.specs.Windows.{part}
use Rattle.backup_delete.specs.WindowLaws.{changes-part, taken-part}
use Rattle.backup_delete.proofs.windows.fold_within.Goals as goal

pub returns-clause-all_tables : goal.returns-clause-all_tables
returns-clause-all_tables c = λ all same is.
    c.in_ok-folded.ensures.tables
    ∙ ap (changes c.args.numbers.now (part c.args.window.first c.args.window.end c.args.lines.now)) is
    ∙ sym (changes-part c.args.numbers.now c.args.lines.now all c.args.window.first c.args.window.end c.requires.window same)

pub returns-clause-all_taken : goal.returns-clause-all_taken
returns-clause-all_taken c = λ all same is id.
    c.in_ok-folded.ensures.taken id
    ∙ ap (λ (tables : List Rows). capped (total id tables))
    (ap (taken_tables c.args.numbers.now (part c.args.window.first c.args.window.end c.args.lines.now)) is
    ∙ sym (taken-part c.args.numbers.now c.args.lines.now all c.args.window.first c.args.window.end c.requires.window same))
