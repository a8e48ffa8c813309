use Rattle.std.proofs.Common.{refl}
use Rattle.folder_making.proofs.NotedSteps.{first_stands}
use Rattle.folder_making.proofs.noted.make_first.Goals as goal

pub returns-clause-stands : goal.returns-clause-stands
returns-clause-stands g c = λ rows more dirs s.
    first_stands rows more (g.F.Folder.tree c.args.folder.now) (g.F.Folder.tree c.make.new.self) dirs c.args.noted.now.items c.push.new.self.items
    c.args.path c.args.file _ c.in-Ok.ensures.made c.in_ok-push.ensures.items refl refl refl s
