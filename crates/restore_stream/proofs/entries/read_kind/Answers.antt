use Rattle.std.proofs.Common.{arith}
use Rattle.restore_stream.specs.Streams.{u8_field, IsKind}
use Rattle.restore_stream.proofs.ReadingLaws.{reads_again, limited_refuses, misfit_refuses, limited_finds}
use Rattle.restore_stream.proofs.EntryLaws.{kind_within}
use Rattle.restore_stream.proofs.entries.read_kind.Goals as goal

pub returns-in_err-kind-clause-read : goal.returns-in_err-kind-clause-read
returns-in_err-kind-clause-read g c =
    reads_again (u8_field IsKind) c.args.start _ _ (λ kind. kind) _ _ c.from_residual.ensures.1
    (limited_refuses _ _ _ _ c.in_err-kind.ensures.read)

pub returns-then-kind-eq0-clause-read : goal.returns-then-kind-eq0-clause-read
returns-then-kind-eq0-clause-read g c = misfit_refuses _ _ _ IsKind c.in_ok-kind.ensures.read (λ h. omega (arith, h.0, c.if-kind-eq0.true))

pub returns-then-kind-gt3-clause-read : goal.returns-then-kind-gt3-clause-read
returns-then-kind-gt3-clause-read g c = misfit_refuses _ _ _ IsKind c.in_ok-kind.ensures.read (λ h. omega (arith, h.1, c.if-kind-gt3.true))

pub returns-clause-read : goal.returns-clause-read
returns-clause-read g c = limited_finds _ _ _ IsKind c.in_ok-kind.ensures.read (kind_within _ c.if-kind-eq0.false c.if-kind-gt3.false)
