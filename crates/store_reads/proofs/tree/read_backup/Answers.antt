use Rattle.store_reads.proofs.Loading.{if_ok, if_err, loaded_tree, tells_backup, backup_fault}
use Rattle.store_reads.proofs.tree.read_backup.Goals as goal

pub returns-in-Ok-clause-loaded : goal.returns-in-Ok-clause-loaded
returns-in-Ok-clause-loaded g c =
    if_ok c.read_at.result
    (loaded_tree c.args.parts.now c.args.name.now c.args.number c.in-Ok.host c.in-Ok.line
    c.in-Ok.ensures.host c.in-Ok.ensures.line) c.read_at.ensures.tree

pub returns-in-Ok-clause-tells : goal.returns-in-Ok-clause-tells
returns-in-Ok-clause-tells g c =
    if_ok c.read_at.result
    (tells_backup c.args.parts.now c.args.name.now c.args.number c.in-Ok.host c.in-Ok.line c.in-Ok.ensures.within
    c.in-Ok.ensures.host c.in-Ok.ensures.line) c.read_at.ensures.tells

pub returns-in-Ok-clause-damaged : goal.returns-in-Ok-clause-damaged
returns-in-Ok-clause-damaged g c =
    if_err c.read_at.result
    (backup_fault c.args.parts.now c.args.name.now c.args.number c.in-Ok.host c.in-Ok.line c.in-Ok.ensures.within
    c.in-Ok.ensures.host c.in-Ok.ensures.line) c.read_at.ensures.damaged
