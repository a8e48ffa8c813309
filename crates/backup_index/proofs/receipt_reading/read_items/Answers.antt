-- One receipt more, and where there is none.
use Rattle.std.proofs.Common.{◌≡◌, ℕ, List, sym, subst}
use Rattle.wire_bytes.specs.Reading.{Reading}
use Rattle.wire_bytes.specs.Grammar.{field}
use Rattle.wire_bytes.specs.GrammarLaws.{refused_again}
use Rattle.wire_bytes.specs.ItemLaws.{ItemsRead, items_read_more, items_refuse, items_find}
use Rattle.receipts.specs.declared.receipt.Receipt.{Receipt}
use Rattle.backup_index.specs.Index.{IsFreshReceipt, receipt_bytes}
use Rattle.backup_index.proofs.receipt_reading.read_items.Goals as goal

pub returns-in_err-receipt : goal.returns-in_err-receipt
returns-in_err-receipt c = refused_again _ _ _ c.from_residual.ensures.1 (items_refuse c.loop-i-test.true c.loop-i.invariant c.in_err-receipt.ensures)

more : (old new : Reading) (receipts receipts' : List Receipt) (i count : ℕ) → receipts' ≡ receipts → ItemsRead IsFreshReceipt receipt_bytes old new receipts i count → ItemsRead IsFreshReceipt receipt_bytes old new receipts' i count
more old new receipts receipts' i count is read = subst (λ (rs : List Receipt). ItemsRead IsFreshReceipt receipt_bytes old new rs i count) (sym is) read

pub add-requires-clause-fresh : goal.add-requires-clause-fresh
unfolding field
add-requires-clause-fresh c = c.in_ok-receipt.ensures.fits.fresh

pub loop-i-preserved : goal.loop-i-preserved
loop-i-preserved c = more _ _ _ _ _ _ c.in_ok-add.ensures.ok (items_read_more c.loop-i-test.true c.loop-i.invariant c.in_ok-receipt.ensures)

pub returns : goal.returns
returns c = items_find c.loop-i-test.false c.loop-i.auto._i-end c.loop-i.invariant
