-- Where none stands, or one that may not stand there.
use Rattle.std.proofs.Common.{Some, ap, refl, ◌∙◌, Option}
use Rattle.wire_bytes.specs.GrammarLaws.{field_finds, field_refuses, narrow_refuses}
use Rattle.certificates.specs.Certificate.{Id}
use Rattle.certificates.specs.Records.{the_file}
use Rattle.certificates.specs.Layout.{is_after, id_cmp, file_bytes, IsFile, IsNextFile}
use Rattle.certificates.proofs.Next.{next_finds, next_refuses}
use Rattle.certificates.proofs.records.read_next_file.Goals as goal

pub returns-in-Err : goal.returns-in-Err
returns-in-Err c = λ before is. narrow_refuses (IsNextFile before) file_bytes (λ v n. n.is)
    (field_refuses c.in-Err.ensures (ap Some c.offset-start.ensures.value))

pub returns-then-not-is_id_after : goal.returns-then-not-is_id_after
returns-then-not-is_id_after c = λ before is.
    next_refuses IsFile file_bytes id_cmp (λ x. x.id) before (field_finds c.in-Ok.ensures)
    (c.if-not-is_id_after.ensures ∙ ap (λ (l : Option Id). is_after id_cmp l c.in-Ok.file.id) is) (ap Some c.offset-start.ensures.value)

pub returns : goal.returns
returns c = λ before is. record {
  value = the_file c.in-Ok.file;
  tells = refl;
  finds = next_finds IsFile file_bytes id_cmp (λ x. x.id) before (field_finds c.in-Ok.ensures)
      (c.if-not-is_id_after.ensures ∙ ap (λ (l : Option Id). is_after id_cmp l c.in-Ok.file.id) is);
}
