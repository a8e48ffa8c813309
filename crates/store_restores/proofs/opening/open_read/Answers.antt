use Rattle.std.specs.Prelude.{Option}
use Rattle.std.proofs.Common.{refl, ap, ◌∙◌}
use Rattle.journal_view.specs.View.{told}
use Rattle.merge_view.specs.Views.{Rows}
use Rattle.store_parts.specs.RunLaws.{counted_then}
use Rattle.store_reads.specs.Told.{TellsBackup}
use Rattle.store_restores.specs.Opening.{OpensRestore}
use Rattle.store_restores.specs.Since.{removed_since, rows_since, TellsBase}
use Rattle.store_restores.proofs.Behind.{looks_then, loaded_since, tells_base, base_fault, refusal_since, refused_first, refused_second, first_reply, second_reply}
use Rattle.store_restores.proofs.Opens.{not_failed, open_refused, open_spent, open_memory, open_made, opened_looks}
use Rattle.store_restores.proofs.opening.open_read.Goals as goal

pub returns-in-Err-clause-runs : goal.returns-in-Err-clause-runs
returns-in-Err-clause-runs g c =
    open_refused c.args.parts.now c.read_backup.new.parts c.args.host.now c.args.number c.args.base c.in-Err.ensures.looks
    c.in-Err.refusal (refused_first c.args.parts.now c.args.host.now c.args.number c.args.base c.in-Err.refusal c.in-Err.ensures.refusal)
    c.in-Err.ensures.counted

pub returns-in-Err-read_base-clause-runs : goal.returns-in-Err-read_base-clause-runs
returns-in-Err-read_base-clause-runs g c =
    open_refused c.args.parts.now c.read_base.new.parts c.args.host.now c.args.number c.args.base
    (looks_then c.args.parts.now c.read_backup.new.parts c.in-Ok.ensures.looks c.read_base.new.parts c.in-Err-read_base.ensures.looks)
    c.in-Err-read_base.refusal
    (refused_second c.args.parts.now c.args.host.now c.args.number c.args.base c.in-Ok.rows c.in-Ok.ensures.loaded c.in-Err-read_base.refusal
    (refusal_since c.args.parts.now c.read_backup.new.parts c.in-Ok.ensures.looks _ c.in-Err-read_base.refusal
    c.in-Err-read_base.ensures.refusal))
    (counted_then c.in-Ok.ensures.counted (not_failed _) c.in-Err-read_base.ensures.counted)

pub returns-in-Err-open_with-clause-runs : goal.returns-in-Err-open_with-clause-runs
returns-in-Err-open_with-clause-runs g c =
    open_memory c.args.parts.now c.read_base.new.parts c.args.host.now c.args.number c.args.base
    (looks_then c.args.parts.now c.read_backup.new.parts c.in-Ok.ensures.looks c.read_base.new.parts c.in-Ok-read_base.ensures.looks)
    c.in-Ok.rows c.in-Ok.ensures.loaded c.in-Ok-read_base.older
    (loaded_since c.args.parts.now c.read_backup.new.parts c.in-Ok.ensures.looks c.args.host.now c.args.base c.in-Ok-read_base.older
    c.in-Ok-read_base.ensures.loaded)
    (counted_then c.in-Ok.ensures.counted (not_failed _) c.in-Ok-read_base.ensures.counted) (not_failed _)
    c.open_with.new.parts c.in-Err-open_with.ensures.err c.open_with.ensures.journal

pub returns-then-parts-ge18446744073709551615-clause-runs : goal.returns-then-parts-ge18446744073709551615-clause-runs
returns-then-parts-ge18446744073709551615-clause-runs g c =
    open_spent c.args.parts.now c.read_base.new.parts c.args.host.now c.args.number c.args.base
    (looks_then c.args.parts.now c.read_backup.new.parts c.in-Ok.ensures.looks c.read_base.new.parts c.in-Ok-read_base.ensures.looks)
    c.in-Ok.rows c.in-Ok.ensures.loaded c.in-Ok-read_base.older
    (loaded_since c.args.parts.now c.read_backup.new.parts c.in-Ok.ensures.looks c.args.host.now c.args.base c.in-Ok-read_base.older
    c.in-Ok-read_base.ensures.loaded)
    (counted_then c.in-Ok.ensures.counted (not_failed _) c.in-Ok-read_base.ensures.counted) (not_failed _)
    c.if-parts-ge18446744073709551615.true

pub returns-in-Ok-open_with-clause-runs : goal.returns-in-Ok-open_with-clause-runs
returns-in-Ok-open_with-clause-runs g c =
    open_made c.args.parts.now c.read_base.new.parts c.args.host.now c.args.number c.args.base
    (looks_then c.args.parts.now c.read_backup.new.parts c.in-Ok.ensures.looks c.read_base.new.parts c.in-Ok-read_base.ensures.looks)
    c.in-Ok.rows c.in-Ok.ensures.loaded c.in-Ok-read_base.older
    (loaded_since c.args.parts.now c.read_backup.new.parts c.in-Ok.ensures.looks c.args.host.now c.args.base c.in-Ok-read_base.older
    c.in-Ok-read_base.ensures.loaded)
    (counted_then c.in-Ok.ensures.counted (not_failed _) c.in-Ok-read_base.ensures.counted) (not_failed _)
    c.open_with.new.parts c.in-Ok-open_with.name
    c.if-parts-ge18446744073709551615.false c.in-Ok-open_with.ensures.ok c.open_with.ensures.journal

pub returns-in-Err-clause-read : goal.returns-in-Err-clause-read
returns-in-Err-clause-read g c =
    first_reply c.args.parts.now c.args.host.now c.args.number c.args.base (TellsBackup c.args.parts.now c.args.host.now c.args.number)
    (λ rows answer. (older : Option Rows) × TellsBase c.args.parts.now c.args.host.now c.args.base older
    × OpensRestore c.args.parts.now.sessions c.args.parts.now.catalog.epoch rows older answer c.read_backup.new.parts.sessions)
    c.in-Err.refusal c.in-Err.ensures.damaged

pub returns-in-Err-read_base-clause-read : goal.returns-in-Err-read_base-clause-read
returns-in-Err-read_base-clause-read g c =
    second_reply c.args.parts.now c.args.host.now c.args.number c.args.base (TellsBackup c.args.parts.now c.args.host.now c.args.number)
    (λ rows answer. (older : Option Rows) × TellsBase c.args.parts.now c.args.host.now c.args.base older
    × OpensRestore c.args.parts.now.sessions c.args.parts.now.catalog.epoch rows older answer c.read_base.new.parts.sessions)
    c.in-Err-read_base.refusal
    (base_fault c.args.parts.now c.read_backup.new.parts c.in-Ok.ensures.looks c.args.host.now c.args.base c.in-Err-read_base.refusal
    c.in-Err-read_base.ensures.damaged)

pub returns-in-Ok-open_with-clause-read : goal.returns-in-Ok-open_with-clause-read
returns-in-Ok-open_with-clause-read g c = (
  c.in-Ok.rows,
  c.in-Ok.ensures.tells,
  (
    c.in-Ok-read_base.older,
    tells_base c.args.parts.now c.read_backup.new.parts c.in-Ok.ensures.looks c.args.host.now c.args.base c.in-Ok-read_base.older
        c.in-Ok-read_base.ensures.tells,
    (
      c.in-Ok-open_with.name,
      refl,
      opened_looks c.args.parts.now c.read_base.new.parts
          (looks_then c.args.parts.now c.read_backup.new.parts c.in-Ok.ensures.looks c.read_base.new.parts c.in-Ok-read_base.ensures.looks)
          c.in-Ok.rows (removed_since c.in-Ok-read_base.older c.in-Ok.rows) (rows_since c.in-Ok-read_base.older c.in-Ok.rows)
          c.in-Ok-open_with.name c.open_with.new.parts.sessions c.in-Ok-open_with.ensures.ok.sessions,
    ),
  ),
)

pub returns-in-Err-clause-quiet : goal.returns-in-Err-clause-quiet
returns-in-Err-clause-quiet g c = c.in-Err.ensures.looks.quiet.told_same

pub returns-in-Err-read_base-clause-quiet : goal.returns-in-Err-read_base-clause-quiet
returns-in-Err-read_base-clause-quiet g c = c.in-Err-read_base.ensures.looks.quiet.told_same ∙ c.in-Ok.ensures.looks.quiet.told_same

pub returns-then-parts-ge18446744073709551615-clause-quiet : goal.returns-then-parts-ge18446744073709551615-clause-quiet
returns-then-parts-ge18446744073709551615-clause-quiet g c =
    c.in-Ok-read_base.ensures.looks.quiet.told_same ∙ c.in-Ok.ensures.looks.quiet.told_same

pub returns-in-Err-open_with-clause-quiet : goal.returns-in-Err-open_with-clause-quiet
returns-in-Err-open_with-clause-quiet g c =
    ap (λ journal. told journal) c.open_with.ensures.journal
    ∙ c.in-Ok-read_base.ensures.looks.quiet.told_same ∙ c.in-Ok.ensures.looks.quiet.told_same

pub returns-in-Ok-open_with-clause-quiet : goal.returns-in-Ok-open_with-clause-quiet
returns-in-Ok-open_with-clause-quiet g c =
    ap (λ journal. told journal) c.open_with.ensures.journal
    ∙ c.in-Ok-read_base.ensures.looks.quiet.told_same ∙ c.in-Ok.ensures.looks.quiet.told_same
