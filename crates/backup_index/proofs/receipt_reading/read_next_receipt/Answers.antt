-- No receipt, one whose token is there already, or one more.
use Rattle.std.proofs.Common.{ℕ, Some, sym, ◌∙◌, ap}
use Rattle.std.proofs.lemmas.Bool.{false≢true}
use Rattle.wire_bytes.specs.GrammarLaws.{field_finds, field_refuses, narrow_finds, narrow_refuses, misfit_refuses}
use Rattle.backup_index.specs.Index.{IsFreshReceipt, receipt_bytes}
use Rattle.backup_index.proofs.receipt_reading.read_next_receipt.Goals as goal

pub returns-in-Err : goal.returns-in-Err
returns-in-Err c = narrow_refuses (IsFreshReceipt c.args.before.now) receipt_bytes (λ receipt is. is.kept) (field_refuses c.in-Err.ensures (ap (λ (n : ℕ). Some n) c.offset-start.ensures.value))

pub returns-then-has_token : goal.returns-then-has_token
returns-then-has_token c =
    misfit_refuses (IsFreshReceipt c.args.before.now) receipt_bytes (λ receipt is. is.kept) (field_finds c.in-Ok.ensures)
    (λ is. false≢true (sym is.fresh ∙ sym c.has_token.ensures ∙ c.if-has_token.true)) (ap (λ (n : ℕ). Some n) c.offset-start.ensures.value)

pub returns : goal.returns
returns c =
    narrow_finds (IsFreshReceipt c.args.before.now) receipt_bytes (λ receipt is. is.kept) (field_finds c.in-Ok.ensures)
    (record { kept = c.in-Ok.ensures.found.0; fresh = sym c.has_token.ensures ∙ c.if-has_token.false })
