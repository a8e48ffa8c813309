use Rattle.std.proofs.Common.{◌≡◌, ◌++◌, take}
use Rattle.std.specs.List.{AllByRecursion}
use Rattle.wire_bytes.specs.Breaks.{items_bytes}
use Rattle.backup_index.specs.Index.{IsReceipt, receipt_bytes}
use Rattle.backup_index.proofs.receipt_writing.put_items.Given as goal

abbrev pub invariant-loop-receipt : goal.invariant-loop-receipt
invariant-loop-receipt l = record {
  written : l.out.items ≡ l.initial.out.items ++ items_bytes receipt_bytes (take l.receipt-index l.receipts);
  fits : AllByRecursion IsReceipt (take l.receipt-index l.receipts);
}
