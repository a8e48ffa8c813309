use Rattle.attr_records.specs.declared.nodes.Item.TheVariants as I
use Rattle.folder_making.proofs.Results.{on_ok}
use Rattle.folder_making.proofs.DirSteps.{symlink_stands}
use Rattle.folder_making.proofs.adding.add_link.Goals as goal

pub returns-clause-stands : goal.returns-clause-stands
returns-clause-stands g c = on_ok c.make.result c.make.ensures.made (λ is rows more noted s.
    symlink_stands rows more (g.F.Folder.tree c.finish_others.new.folder) (g.F.Folder.tree c.make.new.self) c.finish_others.new.dirs.items
    noted c.args.path c.args.link is (c.in-Ok.ensures.stands rows more (I.Link c.args.link) noted s))
