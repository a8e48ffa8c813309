-- One receipt more.
use Rattle.std.proofs.Common.{refl}
use Rattle.wire_bytes.specs.ItemLaws.{items_put_more}
use Rattle.backup_index.specs.Index.{IsReceipt, receipt_bytes}
use Rattle.backup_index.proofs.ItemWrites.{one_fits}
use Rattle.backup_index.proofs.receipt_writing.put_items.Goals as goal

pub loop-receipt-preserved : goal.loop-receipt-preserved
loop-receipt-preserved c = record {
  written = items_put_more receipt_bytes c.args.receipts.now c.loop-receipt.receipt-index _ _ _ _ _ c.loop-receipt-test.true refl c.loop-receipt.invariant.written c.in_ok-put_receipt.ensures.ok;
  fits = one_fits IsReceipt c.args.receipts.now c.loop-receipt.receipt-index _ _ c.loop-receipt-test.true refl c.loop-receipt.invariant.fits c.in_ok-put_receipt.ensures.fits;
}
