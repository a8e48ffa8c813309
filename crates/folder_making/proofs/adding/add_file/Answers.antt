use Rattle.attr_records.specs.declared.nodes.Item.TheVariants as I
use Rattle.folder_making.proofs.Results.{on_ok}
use Rattle.folder_making.proofs.NotedSteps.{file_stands}
use Rattle.folder_making.proofs.adding.add_file.Goals as goal

pub returns-clause-stands : goal.returns-clause-stands
returns-clause-stands g c = on_ok c.make.result c.make.ensures.made (λ is rows more s.
    file_stands rows more (g.F.Folder.tree c.finish_others.new.folder) (g.F.Folder.tree c.make.new.self) c.finish_others.new.dirs.items
    c.args.noted.now.items c.args.path c.args.file is
    (c.in-Ok.ensures.stands rows more (I.File c.args.file) c.args.noted.now.items s))
