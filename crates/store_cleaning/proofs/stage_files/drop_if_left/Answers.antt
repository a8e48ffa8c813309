use Rattle.std.proofs.Common.{sym}
use Rattle.store_cleaning.proofs.StageFiles.{drops_one}
use Rattle.store_cleaning.proofs.stage_files.drop_if_left.Goals as goal

pub returns-in-Ok-clause-drops : goal.returns-in-Ok-clause-drops
returns-in-Ok-clause-drops g c = λ all is.
    drops_one c.args.sessions.now.stages.items.items c.args.journal.now c.drop_data.new.journal c.args.file all
    (sym c.if-not-is_left.ensures) (c.in-Ok.ensures.staged all is)

pub returns-in-Err-Disk-clause-drops : goal.returns-in-Err-Disk-clause-drops
returns-in-Err-Disk-clause-drops g c = λ all is.
    drops_one c.args.sessions.now.stages.items.items c.args.journal.now c.drop_data.new.journal c.args.file all
    (sym c.if-not-is_left.ensures) (c.in-Err-Disk.ensures.staged all is)
