-- The seal, the body, and nothing behind it.
use Rattle.std.proofs.Common.{◌≡◌, ℕ, List, Some, None, refl, ap, sym}
use Rattle.std.specs.declared.result.Result.TheVariants.{Ok, Err}
use Rattle.wire_bytes.specs.Reading.{Reading}
use Rattle.wire_bytes.specs.GrammarReading.{Refuses, Opens, ReadsSealed, fault_offset}
use Rattle.wire_bytes.specs.GrammarLaws.{other_refuses}
use Rattle.wire_bytes.specs.declared.fault.FieldFault.{FieldFault}
use Rattle.wire_bytes.specs.SealedLaws.{seal_refuses, body_refuses, more_refuses, sealed_finds}
use Rattle.certificates.specs.Certificate.{Certificate}
use Rattle.certificates.specs.Layout.{certificate_grammar}
use Rattle.certificates.specs.Telling.{IsFileOf, IsNoFile, IsRead}
use Rattle.certificates.specs.declared.bytes.CertificateBytes.{CertificateBytes}
use Rattle.certificates.proofs.reading.read_certificate.Goals as goal

-- what a refusal tells
none_from : (file : List ℕ) (offset : ℕ) → ReadsSealed {X = Certificate} {V = Certificate} {E = ℕ} (λ o. Some o) (λ v. v) certificate_grammar file (Err offset)
    → IsNoFile certificate_grammar file offset
none_from file offset reads = record { breaks = reads.why; none = λ c fits e. no_some (reads.back c fits e) }
  where
    no_some : Some offset ≡ None → ⊥
    no_some e = cc

found_from : {Tells : Certificate → CertificateBytes → Type 0} (file : List ℕ) (x : CertificateBytes) (value : Certificate) → Tells value x
    → ReadsSealed {X = Certificate} {V = Certificate} {E = ℕ} (λ o. Some o) (λ v. v) certificate_grammar file (Ok value)
    → IsFileOf Tells certificate_grammar file x
found_from file x value tells reads = record { certificate = value; tells = tells; fits = reads.found.0; is = reads.found.1; only = reads.back }

refusal : (file : List ℕ) (first : Reading) (fault : FieldFault) (offset : ℕ) → Opens file first → Refuses fault_offset certificate_grammar first fault
    → fault_offset fault ≡ Some offset → IsNoFile certificate_grammar file offset
refusal file first fault offset opens refused tells =
    none_from file offset (body_refuses opens (other_refuses refused (sym tells)))

-- what is said of it
none_read : (file : List ℕ) (offset : ℕ) → IsNoFile certificate_grammar file offset → IsRead file (Err offset)
none_read file offset none = record { ok = tt; err = none }

pub returns-in-Err : goal.returns-in-Err
returns-in-Err c = none_read _ _ (none_from c.args.file.now _ (seal_refuses c.in-Err.ensures.bad refl))

pub returns-in-Err-read_body : goal.returns-in-Err-read_body
returns-in-Err-read_body c = none_read _ _ (refusal _ _ _ _ c.in-Ok.ensures.found c.in-Err-read_body.ensures c.offset_of.ensures)

pub returns-in-Err-finish : goal.returns-in-Err-finish
returns-in-Err-finish c = none_read _ _ (none_from c.args.file.now _
    (more_refuses c.in-Ok.ensures.found c.in-Ok-read_body.ensures.finds c.in-Err-finish.ensures.err.1 (ap Some c.in-Err-finish.ensures.err.0)))

pub returns-in-Ok-finish : goal.returns-in-Ok-finish
returns-in-Ok-finish c = record {
  ok = found_from c.args.file.now _ c.in-Ok-read_body.ensures.value c.in-Ok-read_body.ensures.tells
      (sealed_finds c.in-Ok.ensures.found c.in-Ok-read_body.ensures.finds c.in-Ok-finish.ensures.ok refl);
  err = tt;
}
