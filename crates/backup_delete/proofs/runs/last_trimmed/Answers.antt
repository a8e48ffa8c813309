-- Behind all backups there is no tree; at a filled one it is its table, and without entries nothing is left.
use Rattle.std.proofs.Common.{arith}
use Rattle.backup_delete.proofs.RunSteps.{last_is, none_behind}
use Rattle.backup_delete.proofs.runs.last_trimmed.Goals as goal

pub returns : goal.returns
returns c =
    last_is c.args.lines.now c.args.tables.now c.args.index c.index-tables-index.result c.args.entries.now _ (omega (arith, c.if-index-lines.false, c.requires.within)) c.requires.same
    c.index-tables-index.is c.requires.last c.in_ok-changing.ensures

pub returns-then-index-lines : goal.returns-then-index-lines
returns-then-index-lines c =
    none_behind c.args.lines.now c.args.tables.now c.args.index c.args.entries.now _ _ (omega (arith, c.if-index-lines.true)) c.requires.same
    c.new.ensures c.in_ok-trimmed.ensures.value
