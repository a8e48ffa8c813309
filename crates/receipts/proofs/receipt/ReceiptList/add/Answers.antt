use Rattle.std.proofs.Common.{◌≡◌, ◌<◌, false, List, length, sym, subst}
use Rattle.receipts.specs.declared.receipt.Receipt.{Receipt}
use Rattle.receipts.specs.Receipts.{AreReceipts, has_token}
use Rattle.receipts.specs.TokenLaws.{AreReceipts-more}
use Rattle.receipts.proofs.receipt.ReceiptList.add.Goals as goal

pub invariant_of-self-2 : goal.invariant_of-self-2
invariant_of-self-2 c = subst AreReceipts (sym c.in_ok-push.ensures.items) (AreReceipts-more _ c.args.receipt c.self.invariant
    (subst (λ (o : List Receipt). length o < 256) (sym c.self.view_is) c.requires.room)
    (subst (λ (o : List Receipt). has_token o c.args.receipt.token ≡ false) (sym c.self.view_is) c.requires.fresh))
