use Rattle.std.proofs.Common.{refl}
use Rattle.folder_making.proofs.Results.{on_ok}
use Rattle.folder_making.proofs.MakeSteps.{none_extended, file_extended}
use Rattle.folder_making.proofs.making.Making.extend.Goals as goal

pub returns-in-None-clause-holds : goal.returns-in-None-clause-holds
returns-in-None-clause-holds g c = λ made more h.
    none_extended made more more (g.F.Folder.tree c.args.folder.now) (g.F.Folder.tree c.args.folder.now) c.args.self.now _ h c.args.bytes (cc) refl refl

pub returns-clause-holds : goal.returns-clause-holds
returns-clause-holds g c = on_ok c.extend.result c.extend.ensures.extends (λ extends made more h.
    file_extended made more more (g.F.Folder.tree c.args.folder.now) (g.F.Folder.tree c.extend.new.folder) c.args.self.now _ h c.args.bytes
    c.in-Some.file _ (cc) refl extends refl refl)
