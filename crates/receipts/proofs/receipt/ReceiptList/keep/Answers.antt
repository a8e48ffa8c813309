use Rattle.std.proofs.Common.{◌≡◌, ◌++◌, ◌∷◌, [], false, List, length, sym, ◌∙◌, subst}
use Rattle.receipts.specs.declared.receipt.Receipt.{Receipt}
use Rattle.receipts.specs.Receipts.{AreReceipts, has_token}
use Rattle.receipts.specs.TokenLaws.{AreReceipts-newest}
use Rattle.receipts.proofs.receipt.ReceiptList.keep.Goals as goal

pub invariant_of-self : goal.invariant_of-self
invariant_of-self c =
    let fresh = sym c.has_token.ensures ∙ c.if-has_token.false in
    let full = sym c.len.ensures.value ∙ c.if-len-eq-MAX_RECEIPTS.true in
    subst AreReceipts (sym c.in-Ok.ensures.items) (subst (λ (o : List Receipt). AreReceipts (o ++ c.args.receipt ∷ [])) (sym c.remove.ensures.items) (AreReceipts-newest _ c.args.receipt c.self.invariant
    (subst (λ (o : List Receipt). length o ≡ 256) (sym c.self.view_is) full)
    (subst (λ (o : List Receipt). has_token o c.args.receipt.token ≡ false) (sym c.self.view_is) fresh)))
