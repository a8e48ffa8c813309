-- A further one, and where there is none.
use Rattle.wire_bytes.specs.GrammarLaws.{refused_again}
use Rattle.wire_bytes.specs.ItemLaws.{items_read_more, items_refuse, items_find}
use Rattle.backup_rules.proofs.reading.read_kept_counts.Goals as goal

pub returns-in_err-kept : goal.returns-in_err-kept
returns-in_err-kept c = refused_again _ _ _ c.from_residual.ensures.1 (items_refuse c.loop-i-test.true c.loop-i.invariant c.in_err-kept.ensures)

pub loop-i-preserved : goal.loop-i-preserved
loop-i-preserved c = rw c.in_ok-push.ensures.items (items_read_more c.loop-i-test.true c.loop-i.invariant c.in_ok-kept.ensures)

pub returns : goal.returns
returns c = items_find c.loop-i-test.false c.loop-i.auto._i-end c.loop-i.invariant
