-- Verdicts on bytes that may be a certificate.
use Rattle.std.specs.Prelude.{◌≡◌, ℕ, List, [], ◌∷◌, length}
use Rattle.certificates.specs.Certificate.{Certificate}
use Rattle.certificates.specs.Layout.{certificate_grammar, certificate_file}
use Rattle.certificates.specs.Telling.{IsNoFile}
use Rattle.certificate_judge.specs.declared.verdict.Verdict.{Verdict}
use Rattle.certificate_judge.specs.declared.verdict.Verdict.TheVariants.{Sound, Wrong, Foreign}
use Rattle.certificate_judge.specs.Faults.{faults}

-- the bytes are those of a certificate that fits the layout, and of no other; and these are its faults
pub record HasFaults (bytes : List ℕ) (offsets : List ℕ) : Type 0 where
  pub certificate : Certificate
  pub fits : certificate_grammar.Fits certificate
  pub is : bytes ≡ certificate_file certificate
  pub only : (other : Certificate) → certificate_grammar.Fits other → bytes ≡ certificate_file other → certificate ≡ other
  pub faults_are : faults certificate ≡ offsets

-- so many faults, the first of them at an offset
pub record HasSome (bytes : List ℕ) (offset number : ℕ) : Type 0 where
  pub more : List ℕ
  pub has : HasFaults bytes (offset ∷ more)
  pub number_is : number ≡ length (offset ∷ more)

-- a certificate without a fault; one with faults; and bytes that break the layout
abbrev pub IsVerdict : List ℕ → Verdict → Type 0
IsVerdict bytes Sound = HasFaults bytes []
IsVerdict bytes (Wrong offset number) = HasSome bytes offset number
IsVerdict bytes (Foreign offset) = IsNoFile certificate_grammar bytes offset

-- the verdict on a certificate, by its faults
abbrev pub verdict_by : List ℕ → Verdict
verdict_by [] = Sound
verdict_by (offset ∷ more) = Wrong offset (length (offset ∷ more))
