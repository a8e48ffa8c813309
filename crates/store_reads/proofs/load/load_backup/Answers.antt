use Rattle.backup_views.specs.Kept.{rows_of}
use Rattle.store_reads.proofs.Loading.{on_ok, if_err, loaded_backup, reads_tree, backup_fault}
use Rattle.store_reads.proofs.load.load_backup.Goals as goal

pub returns-in-Ok-clause-loaded : goal.returns-in-Ok-clause-loaded
returns-in-Ok-clause-loaded g c =
    on_ok c.load.result
    (loaded_backup c.args.parts.now c.load.new.parts c.args.name.now c.args.number c.in-Ok.host c.in-Ok.line
    c.in-Ok.ensures.host c.in-Ok.ensures.line c.load.ensures.reads) c.load.ensures.has

pub returns-in-Ok-clause-read : goal.returns-in-Ok-clause-read
returns-in-Ok-clause-read g c =
    on_ok c.load.result
    (reads_tree c.args.parts.now c.args.name.now c.args.number c.in-Ok.host c.in-Ok.line c.in-Ok.ensures.within
    c.in-Ok.ensures.host c.in-Ok.ensures.line (rows_of c.load.new.parts.views.kept)) c.load.ensures.read

pub returns-in-Ok-clause-damaged : goal.returns-in-Ok-clause-damaged
returns-in-Ok-clause-damaged g c =
    if_err c.load.result
    (backup_fault c.args.parts.now c.args.name.now c.args.number c.in-Ok.host c.in-Ok.line c.in-Ok.ensures.within
    c.in-Ok.ensures.host c.in-Ok.ensures.line) c.load.ensures.damaged
