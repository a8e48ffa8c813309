use Rattle.std.proofs.Common.{refl}
use Rattle.folder_making.proofs.MakeSteps.{made_begun}
use Rattle.folder_making.proofs.making.Making.begin_made.Goals as goal

pub returns-in-Ok-clause-holds : goal.returns-in-Ok-clause-holds
returns-in-Ok-clause-holds g c = λ rows more h.
    made_begun rows more (g.F.Folder.tree c.args.folder.now) (g.F.Folder.tree c.add_begun.new.folder) c.args.self.now _ c.args.path c.args.node
    c.in-Ok.file refl c.in-Ok.ensures.begun refl h
