use Rattle.std.proofs.Common.{sym}
use Rattle.backup_views.specs.Kept.{rows_of}
use Rattle.store_reads.specs.Told.{ReadsTree}
use Rattle.store_reads.specs.ToldLaws.{refused_reply}
use Rattle.store_readers.specs.Opening.{OpensFile}
use Rattle.store_readers.proofs.Opens.{open_refused, open_rule, open_spent, open_memory, open_made, opens_file}
use Rattle.store_readers.proofs.Passing.{not_failed}
use Rattle.store_readers.proofs.opening.open_file.Goals as goal

pub returns-in-Err-clause-runs : goal.returns-in-Err-clause-runs
returns-in-Err-clause-runs g c =
    open_refused c.args.parts.now c.load_backup.new.parts c.args.host.now c.args.number c.args.path.now c.in-Err.ensures.reads
    c.in-Err.refusal c.in-Err.ensures.refusal c.in-Err.ensures.counted

pub returns-in-Err-file_of-clause-runs : goal.returns-in-Err-file_of-clause-runs
returns-in-Err-file_of-clause-runs g c =
    open_rule c.args.parts.now c.load_backup.new.parts c.args.host.now c.args.number c.args.path.now c.in-Ok.ensures.reads
    (rows_of c.load_backup.new.parts.views.kept) c.in-Ok.ensures.loaded _ c.find.ensures c.in-Ok.ensures.counted (not_failed _)
    c.in-Err-file_of.rule (sym c.in-Err-file_of.ensures)

pub returns-then-parts-ge18446744073709551615-clause-runs : goal.returns-then-parts-ge18446744073709551615-clause-runs
returns-then-parts-ge18446744073709551615-clause-runs g c =
    open_spent c.args.parts.now c.load_backup.new.parts c.args.host.now c.args.number c.args.path.now c.in-Ok.ensures.reads
    (rows_of c.load_backup.new.parts.views.kept) c.in-Ok.ensures.loaded _ c.find.ensures c.in-Ok.ensures.counted (not_failed _)
    c.in-Ok-file_of.file (sym c.in-Ok-file_of.ensures) c.if-parts-ge18446744073709551615.true

pub returns-in-Ok-open_with-clause-runs : goal.returns-in-Ok-open_with-clause-runs
returns-in-Ok-open_with-clause-runs g c =
    open_made c.args.parts.now c.load_backup.new.parts c.args.host.now c.args.number c.args.path.now c.in-Ok.ensures.reads
    (rows_of c.load_backup.new.parts.views.kept) c.in-Ok.ensures.loaded _ c.find.ensures c.in-Ok.ensures.counted (not_failed _)
    c.in-Ok-file_of.file (sym c.in-Ok-file_of.ensures) c.open_with.new.parts c.in-Ok-open_with.reader
    c.if-parts-ge18446744073709551615.false c.in-Ok-open_with.ensures.ok

pub returns-in-Err-open_with-clause-runs : goal.returns-in-Err-open_with-clause-runs
returns-in-Err-open_with-clause-runs g c =
    open_memory c.args.parts.now c.load_backup.new.parts c.args.host.now c.args.number c.args.path.now c.in-Ok.ensures.reads
    (rows_of c.load_backup.new.parts.views.kept) c.in-Ok.ensures.loaded _ c.find.ensures c.in-Ok.ensures.counted (not_failed _)
    c.in-Ok-file_of.file (sym c.in-Ok-file_of.ensures) c.open_with.new.parts c.in-Err-open_with.ensures.err

pub returns-in-Err-clause-read : goal.returns-in-Err-clause-read
returns-in-Err-clause-read g c =
    refused_reply c.args.parts.now c.args.host.now c.args.number (ReadsTree c.args.parts.now c.args.host.now c.args.number)
    (λ rows reply. OpensFile g.N.Namer.holds c.args.parts.now.sessions c.args.path.now rows reply c.load_backup.new.parts.sessions)
    c.in-Err.refusal c.in-Err.ensures.damaged

pub returns-in-Ok-open_with-clause-read : goal.returns-in-Ok-open_with-clause-read
returns-in-Ok-open_with-clause-read g c = (
  rows_of c.load_backup.new.parts.views.kept,
  c.in-Ok.ensures.read,
  opens_file c.args.parts.now c.load_backup.new.parts c.args.host.now c.args.number c.args.path.now c.in-Ok.ensures.reads
      (rows_of c.load_backup.new.parts.views.kept) c.in-Ok.ensures.loaded _ c.find.ensures c.in-Ok.ensures.counted (not_failed _)
      c.in-Ok-file_of.file (sym c.in-Ok-file_of.ensures) c.open_with.new.parts c.in-Ok-open_with.reader c.in-Ok-open_with.ensures.ok,
)
