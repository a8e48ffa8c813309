use Rattle.std.proofs.Common.{refl}
use Rattle.folder_walk.proofs.DumpSteps.{unopened, known, stopped, dumped}
use Rattle.folder_walk.proofs.dumping.dump_folder.Goals as goal

pub returns-in-Err-clause-err : goal.returns-in-Err-clause-err
returns-in-Err-clause-err g c =
    unopened g.P.Port.moves g.met.P.Port.joined (g.F.Folder.tree c.args.folder.now) c.args.host.now c.args.kind c.now.result
    (g.C.Clock.moments c.args.clock.now) (g.C.Clock.moments c.now.new.self) (g.C.Clock.moments c.now.new.self) c.args.port.now c.open_dump.new.port
    c.in-Err.fault (c.now.ensures.first, c.now.ensures.later) refl c.in-Err.ensures.err

pub returns-in-Ok-Already-clause-ok : goal.returns-in-Ok-Already-clause-ok
returns-in-Ok-Already-clause-ok g c =
    known g.P.Port.moves g.met.P.Port.joined (g.F.Folder.tree c.args.folder.now) c.args.host.now c.args.kind c.now.result
    (g.C.Clock.moments c.args.clock.now) (g.C.Clock.moments c.now.new.self) (g.C.Clock.moments c.now.new.self) c.args.port.now c.open_dump.new.port
    c.in-Ok-Already.number (c.now.ensures.first, c.now.ensures.later) refl (rw c.in-Ok-Already.field-0-is at c.in-Ok-Already.ensures.ok)

pub returns-in-Ok-clause-ok : goal.returns-in-Ok-clause-ok
returns-in-Ok-clause-ok g c =
    dumped g.P.Port.moves g.met.P.Port.joined (g.F.Folder.tree c.args.folder.now) c.args.host.now c.args.kind c.now.result
    (g.C.Clock.moments c.args.clock.now) (g.C.Clock.moments c.now.new.self) (g.C.Clock.moments c.fill.new.clock) c.args.port.now c.open_dump.new.port
    c.fill.new.port c.in-Ok-Dump.dump c.in-Ok.number (c.now.ensures.first, c.now.ensures.later)
    (rw c.in-Ok-Dump.field-0-is at c.in-Ok-Dump.ensures.ok) c.in-Ok.ensures.filled

pub returns-in-Err-fill-clause-err : goal.returns-in-Err-fill-clause-err
returns-in-Err-fill-clause-err g c =
    stopped g.P.Port.moves g.met.P.Port.joined (g.F.Folder.tree c.args.folder.now) c.args.host.now c.args.kind c.now.result
    (g.C.Clock.moments c.args.clock.now) (g.C.Clock.moments c.now.new.self) (g.C.Clock.moments c.fill.new.clock) c.args.port.now c.open_dump.new.port
    c.fill.new.port c.call-aborted.new.self c.in-Ok-Dump.dump c.in-Err-fill.fault c.call-aborted.result (c.now.ensures.first, c.now.ensures.later)
    (rw c.in-Ok-Dump.field-0-is at c.in-Ok-Dump.ensures.ok) c.in-Err-fill.ensures.filled c.call-aborted.ensures.moved

pub returns-in-Err-clause-cause : goal.returns-in-Err-clause-cause
returns-in-Err-clause-cause g c = c.in-Err.ensures.cause (g.F.Folder.tree c.args.folder.now)
