use Rattle.std.proofs.Common.{refl}
use Rattle.folder_making.proofs.Results.{on_ok}
use Rattle.folder_making.proofs.MakeSteps.{none_ended, kept_ended, made_ended}
use Rattle.folder_making.proofs.making.Making.end_file.Goals as goal

pub returns-in-None-clause-holds : goal.returns-in-None-clause-holds
returns-in-None-clause-holds g c = λ made more left h split.
    none_ended made more left (g.F.Folder.tree c.args.folder.now) (g.F.Folder.tree c.args.folder.now) c.args.self.now _ h refl
    (cc) (cc) refl refl split

pub returns-in-Kept-clause-holds : goal.returns-in-Kept-clause-holds
returns-in-Kept-clause-holds g c = on_ok c.add_file.result c.add_file.ensures.stands (λ adds made more left h split.
    kept_ended made more left (g.F.Folder.tree c.args.folder.now) (g.F.Folder.tree c.add_file.new.folder) c.args.self.now _ h c.in-Some.file
    c.in-Kept.bytes c.from_vec.result (cc) c.in-Kept.is c.from_vec.ensures (cc) adds split)

pub returns-in-InFolder-clause-holds : goal.returns-in-InFolder-clause-holds
returns-in-InFolder-clause-holds g c = λ made more left h split.
    made_ended made more left (g.F.Folder.tree c.args.folder.now) (g.F.Folder.tree c.args.folder.now) c.args.self.now _ h c.in-Some.file
    (cc) c.in-InFolder.is refl (cc) refl refl split
