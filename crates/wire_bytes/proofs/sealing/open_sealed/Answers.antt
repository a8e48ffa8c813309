use Rattle.std.proofs.Common.{◌∙◌, sym, ap, length, arith}
use Rattle.std.proofs.lemmas.Bool.Decides.{Decides-eqb}
use Rattle.std.proofs.lemmas.Slice.Eq.{slice_eq-Decides}
use Rattle.md5.specs.Md5.{md5}
use Rattle.wire_bytes.specs.SealLaws.{length-sealed, parts_of_sealed}
use Rattle.wire_bytes.proofs.sealing.open_sealed.Goals as goal

pub returns-then-file-lt-SEAL_LEN-clause-back : goal.returns-then-file-lt-SEAL_LEN-clause-back
returns-then-file-lt-SEAL_LEN-clause-back c = λ body e. omega (arith, ap length e, length-sealed body)

pub returns-then-eq-clause-back : goal.returns-then-eq-clause-back
returns-then-eq-clause-back c = λ body e. c.split_at.ensures.front ∙ (parts_of_sealed c.args.file.now body e).body

pub returns-else-eq-clause-back : goal.returns-else-eq-clause-back
returns-else-eq-clause-back c = λ body e.
    let parts = parts_of_sealed c.args.file.now body e in
    let digest = c.as_slice.ensures ∙ c.digest.ensures ∙ ap md5 (c.split_at.ensures.front ∙ parts.body) in
    let same = (slice_eq-Decides Decides-eqb _ _ _ c.eq.ensures).1 (digest ∙ sym (c.split_at.ensures.back ∙ parts.seal)) in
    absurd (let both = sym c.if-eq.false ∙ same in cc)
