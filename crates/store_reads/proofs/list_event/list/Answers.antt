use Rattle.std.proofs.Common.{sym, ap}
use Rattle.std.specs.Option.{option_copied}
use Rattle.backup_views.specs.Kept.{rows_of}
use Rattle.office_model.specs.declared.answer.Answer.TheVariants.{Entries}
use Rattle.store_reads.specs.Told.{ReadsTree, ListsRows}
use Rattle.store_reads.proofs.Answering.{not_failed}
use Rattle.store_reads.proofs.Listing.{list_refused, list_rule, list_memory, list_ok}
use Rattle.store_reads.specs.ToldLaws.{refused_reply}
use Rattle.store_reads.proofs.list_event.list.Goals as goal

pub returns-in-Err-clause-runs : goal.returns-in-Err-clause-runs
returns-in-Err-clause-runs g c =
    list_refused c.args.parts.now c.load_backup.new.parts c.args.host.now c.args.number (option_copied c.args.directory)
    c.in-Err.ensures.reads c.in-Err.refusal c.in-Err.ensures.refusal c.in-Err.ensures.counted

pub returns-in-Some-clause-runs : goal.returns-in-Some-clause-runs
returns-in-Some-clause-runs g c =
    list_rule c.args.parts.now c.load_backup.new.parts c.args.host.now c.args.number (option_copied c.args.directory)
    c.in-Ok.ensures.reads _ c.in-Ok.ensures.loaded c.in-Ok.ensures.counted (not_failed _) c.in-Some.rule (sym c.in-Some.ensures)

pub returns-in-Ok-entries_of-clause-runs : goal.returns-in-Ok-entries_of-clause-runs
returns-in-Ok-entries_of-clause-runs g c =
    list_ok c.args.parts.now c.load_backup.new.parts c.args.host.now c.args.number (option_copied c.args.directory)
    c.in-Ok.ensures.reads _ c.in-Ok.ensures.loaded c.in-Ok.ensures.counted (not_failed _) c.in-Ok-entries_of.entries
    (sym c.in-None.ensures) c.in-Ok-entries_of.ensures

pub returns-in-Err-entries_of-clause-runs : goal.returns-in-Err-entries_of-clause-runs
returns-in-Err-entries_of-clause-runs g c =
    list_memory c.args.parts.now c.load_backup.new.parts c.args.host.now c.args.number (option_copied c.args.directory)
    c.in-Ok.ensures.reads _ c.in-Ok.ensures.loaded c.in-Ok.ensures.counted (not_failed _)

pub returns-in-Err-clause-read : goal.returns-in-Err-clause-read
returns-in-Err-clause-read g c =
    refused_reply c.args.parts.now c.args.host.now c.args.number (ReadsTree c.args.parts.now c.args.host.now c.args.number)
    (ListsRows (option_copied c.args.directory)) c.in-Err.refusal c.in-Err.ensures.damaged

pub returns-in-Ok-entries_of-clause-read : goal.returns-in-Ok-entries_of-clause-read
returns-in-Ok-entries_of-clause-read g c =
    (rows_of c.load_backup.new.parts.views.kept, c.in-Ok.ensures.read, (sym c.in-None.ensures, ap Entries c.in-Ok-entries_of.ensures))
