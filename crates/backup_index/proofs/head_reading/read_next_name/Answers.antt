-- A name that is there already.
use Rattle.std.proofs.Common.{ℕ, Some, sym, ◌∙◌, ap}
use Rattle.std.specs.Int.{w8}
use Rattle.std.proofs.lemmas.Bool.{false≢true}
use Rattle.wire_bytes.specs.Layout.{text_bytes}
use Rattle.wire_bytes.specs.GrammarLaws.{refused_again, narrow_finds, narrow_refuses, misfit_refuses}
use Rattle.wire_bytes.specs.Grammar.{field}
use Rattle.backup_index.specs.Names.{IsFreshName}
use Rattle.backup_index.proofs.head_reading.read_next_name.Goals as goal

pub returns-in_err-name : goal.returns-in_err-name
returns-in_err-name c = refused_again _ _ _ c.from_residual.ensures.1 (narrow_refuses (IsFreshName c.args.before.now) (text_bytes w8) (λ name is. is.kept) c.in_err-name.ensures)

pub returns-then-contains : goal.returns-then-contains
returns-then-contains c =
    misfit_refuses (IsFreshName c.args.before.now) (text_bytes w8) (λ name is. is.kept) c.in_ok-name.ensures
    (λ is. false≢true (sym is.fresh ∙ sym c.contains.ensures ∙ c.if-contains.true)) (ap (λ (n : ℕ). Some n) c.offset-start.ensures.value)

pub returns : goal.returns
unfolding field
returns c =
    narrow_finds (IsFreshName c.args.before.now) (text_bytes w8) (λ name is. is.kept) c.in_ok-name.ensures (record { kept = c.in_ok-name.ensures.fits; fresh = sym c.contains.ensures ∙ c.if-contains.false })
