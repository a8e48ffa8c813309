-- The host that stands there.
use Rattle.std.proofs.Common.{◌≡◌, None, ℕ, ◌+◌, ◌++◌, length, ap, subst, ◌∙◌, arith}
use Rattle.wire_bytes.specs.declared.fault.FieldFault.{FieldFault}
use Rattle.wire_bytes.specs.declared.fault.FieldFault.TheVariants.{Ended, Foreign}
use Rattle.wire_bytes.specs.GrammarReading.{fault_offset}
use Rattle.wire_bytes.specs.Grammar.{field}
use Rattle.certificates.specs.Certificate.{HostPart}
use Rattle.certificates.specs.Layout.{host_grammar}
use Rattle.certificates.specs.Telling.{IsHost}
use Rattle.certificate_judge.specs.Faults.{host_faults}
use Rattle.certificate_judge.specs.Judging.{IsTally, ids_in}
use Rattle.certificate_judge.proofs.judging.note_next_host.Goals as goal

no_offset : (fault : FieldFault) → fault_offset fault ≡ None → ⊥
no_offset (Ended offset) e = cc
no_offset (Foreign offset) e = cc

pub returns-in-Err : goal.returns-in-Err
unfolding field
returns-in-Err c = λ offsets part rest fits rising e below before. absurd (no_offset c.in-Err.field-0 (c.in-Err.ensures.back part rest fits e))

pub returns-in-Ok : goal.returns-in-Ok
unfolding field
returns-in-Ok c = λ offsets part rest fits rising e below before.
    let one = c.in-Ok.ensures.finds.back part rest fits e in
    let tells : IsHost part c.in-Ok.host = subst (λ (h : HostPart). IsHost h c.in-Ok.host) one.0 c.in-Ok.ensures.tells in
    let at : c.saturating_add-at.result ≡ 16 + c.args.reader.now.offset = omega (arith, c.saturating_add-at.ensures, c.offset.ensures.value, below) in
    let noted = c.note_host.ensures offsets part tells fits rising (omega (arith, at, below)) before in (
      one.1,
      c.in-Ok.ensures.finds.passed.offset ∙ ap (λ (h : HostPart). c.args.reader.now.offset + length (host_grammar.print h)) one.0,
      subst (λ (n : ℕ). IsTally (offsets ++ host_faults (ids_in c.args.pool.now) n part) c.note_host.result) at noted,
    )
