use Rattle.attr_records.specs.declared.nodes.Item.TheVariants as I
use Rattle.folder_making.proofs.DirSteps.{dir_stands}
use Rattle.folder_making.proofs.adding.add_dir.Goals as goal

pub returns-clause-stands : goal.returns-clause-stands
returns-clause-stands g c = λ rows more noted s.
    dir_stands rows more (g.F.Folder.tree c.finish_others.new.folder) (g.F.Folder.tree c.make.new.self) c.finish_others.new.dirs.items c.push.new.self.items
    noted c.args.path c.args.dir c.in-Ok-make.ensures.made c.in_ok-push.ensures.items (c.in-Ok.ensures.stands rows more (I.Dir c.args.dir) noted s)
