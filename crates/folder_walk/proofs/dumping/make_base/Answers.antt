use Rattle.std.proofs.Common.{subst, sym, Ok, Err}
use Rattle.folder_walk.specs.Bases.{MakesBase}
use Rattle.folder_walk.proofs.DumpSteps.{base_full}
use Rattle.folder_walk.proofs.dumping.make_base.Goals as goal

pub returns-in-Full-clause-base : goal.returns-in-Full-clause-base
returns-in-Full-clause-base g c =
    subst (λ kind. MakesBase g.P.Port.moves c.args.port.now c.args.port.now (g.F.Folder.tree c.args.folder.now) kind c.args.host.now c.args.dump (Ok tt))
    (sym c.in-Full.is)
    (base_full g.P.Port.moves g.met.P.Port.joined g.met.P.Port.none (g.F.Folder.tree c.args.folder.now) c.args.host.now c.args.dump c.args.port.now)
