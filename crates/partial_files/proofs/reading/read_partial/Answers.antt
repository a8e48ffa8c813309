-- The seal, the body, and nothing behind it.
use Rattle.std.proofs.Common.{ℕ, Some, refl, ap, ◌∙◌}
use Rattle.wire_bytes.specs.SealedLaws.{seal_refuses, body_refuses, more_refuses, sealed_finds, sealed_by, sealed_again}
use Rattle.partial_files.proofs.reading.read_partial.Goals as goal

pub returns-in_err-reader : goal.returns-in_err-reader
returns-in_err-reader c = sealed_by _ c.from_residual.ensures.1 (λ e told. seal_refuses c.in_err-reader.ensures.bad told)

pub returns-in_err-file : goal.returns-in_err-file
returns-in_err-file c = sealed_again _ c.from_residual-in_err-file.ensures.1
    (body_refuses c.in_ok-reader.ensures.found c.in_err-file.ensures)

pub returns-in_err-finish : goal.returns-in_err-finish
returns-in_err-finish c =
    sealed_by _ c.from_residual-in_err-finish.ensures.1
    (λ e told. more_refuses c.in_ok-reader.ensures.found c.in_ok-file.ensures c.in_err-finish.ensures.err.1
    (told ∙ ap (λ (n : ℕ). Some n) c.in_err-finish.ensures.err.0))

pub returns : goal.returns
returns c = sealed_finds c.in_ok-reader.ensures.found c.in_ok-file.ensures c.in_ok-finish.ensures.ok refl
