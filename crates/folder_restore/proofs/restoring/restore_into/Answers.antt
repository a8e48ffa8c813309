use Rattle.folder_restore.proofs.RestoreSteps.{closed, unclosed, unmade, unopened}
use Rattle.folder_restore.proofs.restoring.restore_into.Goals as goal

pub returns-in-Err-clause-err : goal.returns-in-Err-clause-err
returns-in-Err-clause-err g c =
    unopened g.P.Port.moves g.met.P.Port.joined g.met.P.Port.none c.args.port.now c.open_read.new.port c.args.host c.args.number
    c.in-Err.refusal c.in-Err.ensures.err

pub returns-in-Err-make_all-clause-err : goal.returns-in-Err-make_all-clause-err
returns-in-Err-make_all-clause-err g c =
    unmade g.P.Port.moves g.met.P.Port.joined g.met.P.Port.none c.args.port.now c.open_read.new.port c.make_all.new.port
    c.make_all.new.port c.args.host c.args.number c.in-Ok.restore c.in-Ok.ensures.ok c.in-Err-make_all.refusal c.in-Err-make_all.ensures.err

pub returns-in-Ok-close_read-clause-ok : goal.returns-in-Ok-close_read-clause-ok
returns-in-Ok-close_read-clause-ok g c =
    closed g.P.Port.moves g.met.P.Port.joined g.met.P.Port.none c.args.port.now c.open_read.new.port c.make_all.new.port
    c.close_read.new.port c.args.host c.args.number c.in-Ok.restore c.in-Ok.ensures.ok (g.F.Folder.tree c.args.folder.now)
    (g.F.Folder.tree c.make_all.new.folder) c.in-Ok-make_all.count c.requires c.in-Ok-make_all.ensures.ok c.in-Ok-close_read.ensures.ok

pub returns-in-Err-close_read-clause-err : goal.returns-in-Err-close_read-clause-err
returns-in-Err-close_read-clause-err g c =
    unclosed g.P.Port.moves g.met.P.Port.joined g.met.P.Port.none c.args.port.now c.open_read.new.port c.make_all.new.port
    c.close_read.new.port c.args.host c.args.number c.in-Ok.restore c.in-Ok.ensures.ok (g.F.Folder.tree c.args.folder.now)
    (g.F.Folder.tree c.make_all.new.folder) c.in-Ok-make_all.count c.in-Err-close_read.refusal c.in-Ok-make_all.ensures.ok
    c.in-Err-close_read.ensures.err
