use Rattle.std.proofs.Common.{ℕ, List, refl, subst, sym, ◌∙◌}
use Rattle.restore_stream.specs.Streams.{text_field16}
use Rattle.restore_stream.specs.OneFrame.{IsPath}
use Rattle.restore_stream.specs.Reading.{Finds}
use Rattle.restore_stream.proofs.ReadingLaws.{reads_again, limited_refuses, misfit_refuses, limited_finds}
use Rattle.restore_stream.proofs.one_frame.read_path.Goals as goal

pub returns-in_err-text-clause-read : goal.returns-in_err-text-clause-read
returns-in_err-text-clause-read g c =
    reads_again (text_field16 IsPath) 0 _ _ (λ path. path) _ _ c.from_residual.ensures.1 (limited_refuses _ _ _ _ c.in_err-text.ensures.read)

pub returns-then-not-is_path-clause-read : goal.returns-then-not-is_path-clause-read
returns-then-not-is_path-clause-read g c = misfit_refuses _ _ _ IsPath c.in_ok-text.ensures.read (λ h.
    absurd (let e = c.if-not-is_path.ensures.1 (subst IsPath (sym c.as_slice.ensures.value) h) in cc))

pub returns-in-Ok-clause-read : goal.returns-in-Ok-clause-read
returns-in-Ok-clause-read g c =
    subst (λ (text : List ℕ). Finds (text_field16 IsPath) (g.S.Faults.left c.args.source.now) text (g.S.Faults.left c.read_text16.new.source))
    (sym (c.in-Ok.ensures ∙ c.as_slice-2.ensures.value)) (limited_finds _ _ _ IsPath c.in_ok-text.ensures.read
    (subst IsPath c.as_slice.ensures.value (c.if-not-is_path.ensures.0 refl)))
