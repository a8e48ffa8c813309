-- What a verdict says of a certificate whose bytes are known.
--     judged_by_faults      the verdict is that of its faults
--     sound_exactly, sound_bytes      it is Sound exactly if the certificate is right
use Rattle.std.specs.Prelude.{◌≡◌, ◌↔◌, ℕ, List, [], ◌∷◌}
use Rattle.std.proofs.Common.{refl, sym, ap, subst, ◌∙◌}
use Rattle.certificates.specs.Certificate.{Certificate}
use Rattle.certificates.specs.Layout.{certificate_grammar, certificate_file}
use Rattle.certificate_judge.specs.declared.verdict.Verdict.{Verdict}
use Rattle.certificate_judge.specs.declared.verdict.Verdict.TheVariants.{Sound, Wrong, Foreign}
use Rattle.certificate_judge.specs.Faults.{faults}
use Rattle.certificate_judge.specs.Verdicts.{HasFaults, IsVerdict, verdict_by}
use Rattle.certificate_judge.specs.Right.{IsRight, TellsRight}
use Rattle.certificate_judge.specs.RightLaws.{right_from_none, none_from_right}

module _ (c : Certificate) (bytes : List ℕ) (fits : certificate_grammar.Fits c) (is : bytes ≡ certificate_file c) where
  faults_of : (offsets : List ℕ) → HasFaults bytes offsets → faults c ≡ offsets
  faults_of offsets has = ap faults (sym (has.only c fits is)) ∙ has.faults_are

  pub judged_by_faults : (verdict : Verdict) → IsVerdict bytes verdict → verdict ≡ verdict_by (faults c)
  judged_by_faults Sound has = ap verdict_by (sym (faults_of [] has))
  judged_by_faults (Wrong offset number) some =
      ap (λ (n : ℕ). Wrong offset n) some.number_is ∙ ap verdict_by (sym (faults_of (offset ∷ some.more) some.has))
  judged_by_faults (Foreign offset) foreign = absurd (foreign.none c fits is)

  none_if_sound : (offsets : List ℕ) → verdict_by offsets ≡ Sound → offsets ≡ []
  none_if_sound [] e = refl
  none_if_sound (offset ∷ more) e = cc

  pub sound_exactly : (verdict : Verdict) → IsVerdict bytes verdict → (verdict ≡ Sound) ↔ IsRight c
  sound_exactly verdict judged = (
    λ sound. right_from_none c (none_if_sound (faults c) (sym (judged_by_faults verdict judged) ∙ sound)),
    λ right. judged_by_faults verdict judged ∙ ap verdict_by (none_from_right c right),
  )

pub tells_from_sound : (bytes : List ℕ) → HasFaults bytes [] → TellsRight bytes
tells_from_sound bytes has = record {
  certificate = has.certificate;
  fits = has.fits;
  is = has.is;
  only = has.only;
  right = right_from_none has.certificate has.faults_are;
}

pub sound_bytes : (bytes : List ℕ) (verdict : Verdict) → IsVerdict bytes verdict → (verdict ≡ Sound) ↔ TellsRight bytes
sound_bytes bytes verdict judged = (
  λ sound. tells_from_sound bytes (subst (λ (v : Verdict). IsVerdict bytes v) sound judged),
  λ tells. (sound_exactly tells.certificate bytes tells.fits tells.is verdict judged).1 tells.right,
)
