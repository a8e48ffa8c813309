use Rattle.std.specs.Prelude.{◌≡◌}
use Rattle.std.proofs.Common.{ℕ, List, rules, refl, subst}
use Rattle.restore_stream.specs.Layouts.{magic}
use Rattle.restore_stream.specs.Streams.{bytes_field_of}
use Rattle.restore_stream.specs.Reading.{Finds}
use Rattle.restore_stream.proofs.ReadingLaws.{reads_again, limited_refuses, misfit_refuses, limited_finds}
use Rattle.restore_stream.proofs.FieldLaws.{bytes_came, front_short}
use Rattle.restore_stream.proofs.reading.read_magic.Goals as goal

pub returns-in_err-fill-clause-read : goal.returns-in_err-fill-clause-read
returns-in_err-fill-clause-read g c =
    reads_again (bytes_field_of 4 (λ front. front ≡ magic)) 0 _ _ (λ _. magic) _ _ c.from_residual.ensures.1
    (limited_refuses _ _ _ _ (front_short 4 0 _ _ c.in_err-fill.ensures.faults c.in_err-fill.ensures.short))

pub returns-then-not-is_magic-clause-read : goal.returns-then-not-is_magic-clause-read
returns-then-not-is_magic-clause-read g c =
    misfit_refuses _ _ _ (λ front. front ≡ magic) (bytes_came 4 _ _ c.fill.new.room (search rules) c.in_ok-fill.ensures.told)
    (λ h. absurd (let e = c.if-not-is_magic.ensures.1 h in cc))

pub returns-clause-read : goal.returns-clause-read
returns-clause-read g c =
    let is = c.if-not-is_magic.ensures.0 refl in
    subst (λ (front : List ℕ). Finds (bytes_field_of 4 (λ front. front ≡ magic)) (g.S.Faults.left c.args.source.now) front
    (g.S.Faults.left c.fill.new.source)) is
    (limited_finds _ _ _ (λ front. front ≡ magic) (bytes_came 4 _ _ c.fill.new.room (search rules) c.in_ok-fill.ensures.told) is)
