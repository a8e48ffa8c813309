use Rattle.std.proofs.Common.{Option, Ok, Err, refl, sym, ap, ◌∙◌, subst}
use Rattle.disk_trait.specs.Files.{Files}
use Rattle.backup_views.specs.Kept.{rows_of}
use Rattle.journal_view.specs.View.{told}
use Rattle.store_reads.specs.Shown.{content_told}
use Rattle.store_reads.specs.Told.{ReadsTree, HasDamagedTable, IsContentOf, GivesFile}
use Rattle.store_reads.proofs.Answering.{not_failed}
use Rattle.store_reads.proofs.Contents.{content_bytes}
use Rattle.store_reads.proofs.Reading.{file_refused, file_rule, file_ok, file_err}
use Rattle.store_reads.specs.ToldLaws.{refused_reply, content_reply}
use Rattle.store_reads.proofs.read_file_event.read_file.Goals as goal

pub returns-in-Err-clause-runs : goal.returns-in-Err-clause-runs
returns-in-Err-clause-runs g c =
    file_refused c.args.parts.now c.load_backup.new.parts c.args.host.now c.args.number c.args.path.now c.in-Err.ensures.reads
    c.in-Err.refusal c.in-Err.ensures.refusal c.in-Err.ensures.counted

pub returns-in-Err-content_of-clause-runs : goal.returns-in-Err-content_of-clause-runs
returns-in-Err-content_of-clause-runs g c =
    file_rule c.args.parts.now c.load_backup.new.parts c.args.host.now c.args.number c.args.path.now c.in-Ok.ensures.reads _
    c.in-Ok.ensures.loaded _ c.find.ensures c.in-Err-content_of.rule (sym c.in-Err-content_of.ensures) c.in-Ok.ensures.counted
    (not_failed _)

pub returns-in-Ok-read_content-clause-runs : goal.returns-in-Ok-read_content-clause-runs
returns-in-Ok-read_content-clause-runs g c =
    file_ok c.args.parts.now c.load_backup.new.parts c.args.host.now c.args.number c.args.path.now c.in-Ok.ensures.reads _
    c.in-Ok.ensures.loaded _ c.find.ensures c.read_content.new.parts c.in-Ok-read_content.ensures.looks c.in-Ok-content_of.content
    (sym c.in-Ok-content_of.ensures) c.in-Ok.ensures.counted (not_failed _) c.in-Ok-read_content.bytes
    (content_bytes g.N.Namer.digest_of (told c.load_backup.new.parts.journal) c.in-Ok-content_of.content c.in-Ok-read_content.bytes
    c.in-Ok-read_content.ensures.content)
    c.in-Ok-read_content.ensures.counted (not_failed _)

pub returns-in-Err-read_content-clause-runs : goal.returns-in-Err-read_content-clause-runs
returns-in-Err-read_content-clause-runs g c =
    file_err c.args.parts.now c.load_backup.new.parts c.args.host.now c.args.number c.args.path.now c.in-Ok.ensures.reads _
    c.in-Ok.ensures.loaded _ c.find.ensures c.read_content.new.parts c.in-Err-read_content.ensures.looks c.in-Ok-content_of.content
    (sym c.in-Ok-content_of.ensures) c.in-Ok.ensures.counted
    (not_failed _) c.in-Err-read_content.refusal c.in-Err-read_content.ensures.fault
    c.in-Err-read_content.ensures.counted

pub returns-in-Err-clause-read : goal.returns-in-Err-clause-read
returns-in-Err-clause-read g c =
    refused_reply c.args.parts.now c.args.host.now c.args.number (ReadsTree c.args.parts.now c.args.host.now c.args.number)
    (GivesFile g.N.Namer.digest_of (told c.args.parts.now.journal) c.args.path.now) c.in-Err.refusal c.in-Err.ensures.damaged

pub returns-in-Ok-read_content-clause-read : goal.returns-in-Ok-read_content-clause-read
returns-in-Ok-read_content-clause-read g c = (
  rows_of c.load_backup.new.parts.views.kept,
  c.in-Ok.ensures.read,
  (
    c.in-Ok-read_content.bytes,
    refl,
    record {
      content = c.in-Ok-content_of.content;
      is_content = ap content_told (sym c.find.ensures) ∙ sym c.in-Ok-content_of.ensures;
      read = subst (λ (t : Option Files). IsContentOf g.N.Namer.digest_of t c.in-Ok-content_of.content (Ok c.in-Ok-read_content.bytes))
          c.in-Ok.ensures.reads.quiet.told_same c.in-Ok-read_content.ensures.content;
    },
  ),
)

pub returns-in-Err-read_content-clause-read : goal.returns-in-Err-read_content-clause-read
returns-in-Err-read_content-clause-read g c =
    content_reply (ReadsTree c.args.parts.now c.args.host.now c.args.number) (HasDamagedTable c.args.parts.now c.args.host.now c.args.number)
    g.N.Namer.digest_of (told c.args.parts.now.journal) c.args.path.now (rows_of c.load_backup.new.parts.views.kept)
    c.in-Err-read_content.refusal c.in-Ok.ensures.read (record {
      content = c.in-Ok-content_of.content;
      is_content = ap content_told (sym c.find.ensures) ∙ sym c.in-Ok-content_of.ensures;
      read = subst (λ (t : Option Files). IsContentOf g.N.Namer.digest_of t c.in-Ok-content_of.content (Err c.in-Err-read_content.refusal))
          c.in-Ok.ensures.reads.quiet.told_same c.in-Err-read_content.ensures.content;
    })
