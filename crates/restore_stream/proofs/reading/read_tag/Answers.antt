use Rattle.std.specs.Prelude.{◌≡◌, ◌⊎◌}
use Rattle.std.proofs.Common.{inl, inr}
use Rattle.restore_stream.specs.Streams.{u8_field}
use Rattle.restore_stream.proofs.ReadingLaws.{reads_again, limited_refuses, misfit_refuses, limited_finds}
use Rattle.restore_stream.proofs.EntryLaws.{no_tag}
use Rattle.restore_stream.proofs.reading.read_tag.Goals as goal

pub returns-in_err-tag-clause-read : goal.returns-in_err-tag-clause-read
returns-in_err-tag-clause-read g c =
    reads_again (u8_field (λ tag. (tag ≡ 69) ⊎ (tag ≡ 90))) c.args.start _ _ (λ tag. tag) _ _ c.from_residual.ensures.1
    (limited_refuses _ _ _ _ c.in_err-tag.ensures.read)

pub returns-then-tag-eq69-clause-read : goal.returns-then-tag-eq69-clause-read
returns-then-tag-eq69-clause-read g c = limited_finds _ _ _ (λ tag. (tag ≡ 69) ⊎ (tag ≡ 90)) c.in_ok-tag.ensures.read
    (inl c.if-tag-eq69.true)

pub returns-then-tag-eq90-clause-read : goal.returns-then-tag-eq90-clause-read
returns-then-tag-eq90-clause-read g c = limited_finds _ _ _ (λ tag. (tag ≡ 69) ⊎ (tag ≡ 90)) c.in_ok-tag.ensures.read
    (inr c.if-tag-eq90.true)

pub returns-clause-read : goal.returns-clause-read
returns-clause-read g c =
    misfit_refuses _ _ _ (λ tag. (tag ≡ 69) ⊎ (tag ≡ 90)) c.in_ok-tag.ensures.read (no_tag _ c.if-tag-eq69.false c.if-tag-eq90.false)
