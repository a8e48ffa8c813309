use Rattle.wire_bytes.specs.ItemLaws.{ItemsRead}
use Rattle.backup_index.specs.Index.{IsFreshReceipt, receipt_bytes}
use Rattle.backup_index.proofs.receipt_reading.read_items.Given as goal

abbrev pub invariant-loop-i : goal.invariant-loop-i
invariant-loop-i l = ItemsRead IsFreshReceipt receipt_bytes l.fn.reader l.reader l.receipts l._i l.count
