use Rattle.std.proofs.Common.{sym, subst}
use Rattle.receipts.specs.Receipts.{AreReceipts}
use Rattle.receipts.specs.TokenLaws.{AreReceipts-none}
use Rattle.receipts.proofs.receipt.ReceiptList.new.Goals as goal

pub invariant_of-result : goal.invariant_of-result
invariant_of-result c = subst AreReceipts (sym c.new.ensures.items) AreReceipts-none
