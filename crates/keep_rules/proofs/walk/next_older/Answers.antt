use Rattle.std.proofs.Common.{sym, ◌∙◌, arith}
use Rattle.std.proofs.lemmas.Bool.{and_left, and_right}
use Rattle.keep_rules.proofs.StepLaws.{next_filled, next_other}
use Rattle.keep_rules.proofs.walk.next_older.Goals as goal
use Rattle.keep_rules.proofs.walk.next_older.Goals.{else-has-via-then-has+else-line, else-has-via-else-has}

pub returns-then-line : goal.returns-then-line
returns-then-line c =
    sym (c.loop-index.invariant
    ∙ next_filled c.args.rules.now c.args.now c.args.group c.args.older.now c.loop-index.index _ (omega arith) (omega arith)
    (sym c.has.ensures ∙ c.if-has.true) c.if-line.true)

pub loop-index-preserved : goal.loop-index-preserved
loop-index-preserved c =
    elim c.else-has.branch [
      | else-has-via-then-has+else-line w ↦
          c.loop-index.invariant
          ∙ next_other c.args.rules.now c.args.now c.args.group c.args.older.now c.loop-index.index _ (omega arith) (omega arith) (and_right _ _ w.if-line.false)
      | else-has-via-else-has w ↦
          c.loop-index.invariant
          ∙ next_other c.args.rules.now c.args.now c.args.group c.args.older.now c.loop-index.index _ (omega arith) (omega arith)
          (and_left _ _ (sym c.has.ensures ∙ w.if-has.false))
    ]
