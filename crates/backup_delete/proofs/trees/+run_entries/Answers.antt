-- No backup, one, or two halves.
use Rattle.std.proofs.Common.{◌+◌, ◌-◌, ◌/◌, arith}
use Rattle.backup_delete.proofs.RunSteps.{run_none, run_one, run_halves}
use Rattle.backup_delete.proofs.trees.+run_entries.Goals as goal

pub returns-then-index-next : goal.returns-then-index-next
returns-then-index-next t c =
    run_none c.args.lines.now c.args.tables.now c.args.index c.args.next c.new.result c.requires.order (omega (arith, c.if-index-next.true))
    c.new.ensures

pub returns-then-next-index-eq1 : goal.returns-then-next-index-eq1
returns-then-next-index-eq1 t c =
    run_one c.args.lines.now c.args.tables.now c.args.index c.args.next c.index-tables-index.result c.in_ok-copy.field-0
    (omega (arith, c.if-next-index-eq1.true)) (omega (arith, c.if-next-index-eq1.true, c.requires.within)) c.requires.same
    c.index-tables-index.is (c.requires.unfilled c.args.index (omega arith) (omega (arith, c.if-next-index-eq1.true))) c.in_ok-copy.ensures

pub returns : goal.returns
returns t c =
    run_halves c.args.lines.now c.args.tables.now c.args.index (c.args.index + (c.args.next - c.args.index) / 2) c.args.next
    c.in_ok-older.older c.in_ok-newer.newer c.in_ok-stacked.field-0 c.requires.order c.in_ok-older.ensures c.in_ok-newer.ensures
    c.in_ok-stacked.ensures.seen
