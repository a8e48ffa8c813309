use Rattle.std.proofs.Common.{sym, subst}
use Rattle.office_model.specs.Office.{Host, Dump, IsUnspent}
use Rattle.tree_parts.proofs.CommitLaws.{receipt_kept}
use Rattle.tree_parts.proofs.host.Host.with_receipt.Goals as goal

pub returns : goal.returns
returns c =
    let at_dump = subst (λ (d : Dump). IsUnspent c.args.self.now.receipts d.token) (sym c.dump.view_is) c.requires in
    let unspent = subst (λ (h : Host). IsUnspent h.receipts c.dump.inside.token) (sym c.self.view_is) at_dump in
    rw (← c.self.view_is, ← c.dump.view_is)
    (receipt_kept c.self.inside.receipts _ _ c.dump.inside.token c.in-Some.token c.dump.inside.name c.args.number c.in-Some.is unspent
    c.in_ok-receipts.ensures c.in_ok-keep.ensures.ok)
