use Rattle.std.specs.Prelude.{◌≡◌}
use Rattle.restore_stream.specs.Streams.{u32_field}
use Rattle.restore_stream.proofs.ReadingLaws.{reads_again, limited_refuses, misfit_refuses, limited_finds}
use Rattle.restore_stream.proofs.entries.read_this_u32.Goals as goal

pub returns-in_err-n-clause-read : goal.returns-in_err-n-clause-read
returns-in_err-n-clause-read g c =
    reads_again (u32_field (λ n. n ≡ c.args.expected)) c.args.start _ _ (λ n. n) _ _ c.from_residual.ensures.1
    (limited_refuses _ _ _ _ c.in_err-n.ensures.read)

pub returns-then-n-expected-clause-read : goal.returns-then-n-expected-clause-read
returns-then-n-expected-clause-read g c = misfit_refuses _ _ _ (λ n. n ≡ c.args.expected) c.in_ok-n.ensures.read
    (λ h. absurd (c.if-n-expected.true h))

pub returns-clause-read : goal.returns-clause-read
returns-clause-read g c = limited_finds _ _ _ (λ n. n ≡ c.args.expected) c.in_ok-n.ensures.read c.if-n-expected.false
