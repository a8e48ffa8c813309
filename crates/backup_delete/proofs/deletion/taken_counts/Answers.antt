-- One backup more.
use Rattle.std.proofs.Common.{◌≡◌, ◌+◌, ◌-◌, ◌<◌, ◌||◌, List, length, drop, sym, ap, ◌∙◌, if◌then◌else◌, arith}
use Rattle.backup_rules.specs.declared.lines.Line.{Line}
use Rattle.stored_trees.specs.Occurrences.{occurrences}
use Rattle.ref_counts.specs.Numbers.{total, capped}
use Rattle.backup_delete.specs.Trees.{is_gone, needs_fold}
use Rattle.backup_delete.specs.Folds.{taken_tables}
use Rattle.backup_delete.proofs.Steps.{line_at, line_is, taken_step}
use Rattle.backup_delete.proofs.deletion.taken_counts.Goals as goal

pub down-preserved : goal.down-preserved
down-preserved c =
    let within : c.down.index - 1 < length c.args.lines.now = omega (arith, c.down-test.true, c.down.invariant.within) in
    let next : c.down.index ≡ (c.down.index - 1) + 1 = omega (arith, c.down-test.true) in
    let line = line_at c.args.lines.now (c.down.index - 1) in
    record {
      within = omega (arith, c.down.invariant.within);
      told = λ id.
          let before = total id (taken_tables c.args.numbers.now (drop c.down.index c.args.lines.now) (drop c.down.index c.args.tables.now)) in
          c.in_ok-count_taken.ensures id before (c.down.invariant.told id)
          ∙ ap (λ (newer : List Line). capped (if is_gone c.args.numbers.now line.number || needs_fold c.args.numbers.now line newer then before + occurrences id c.index-tables-index.result else before))
          (c.split_at.ensures.back ∙ ap (λ m. drop m c.args.lines.now) (sym next))
          ∙ ap capped (taken_step id c.args.numbers.now c.args.lines.now c.args.tables.now (c.down.index - 1) c.down.index line c.index-tables-index.result next within c.requires
          (line_is c.args.lines.now (c.down.index - 1) within) c.index-tables-index.is);
    }
