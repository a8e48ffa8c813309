use Rattle.std.proofs.Common.{refl, ap}
use Rattle.attr_records.specs.declared.nodes.Item.TheVariants as I
use Rattle.folder_making.specs.Made.{begun_at}
use Rattle.folder_making.proofs.Results.{on_ok}
use Rattle.folder_making.proofs.MakeSteps.{file_begun, row_begun}
use Rattle.folder_making.proofs.making.Making.begin_node.Goals as goal

pub returns-in-File-clause-holds : goal.returns-in-File-clause-holds
returns-in-File-clause-holds g c = on_ok c.begin_file.result c.begin_file.ensures.holds (λ begins rows more left h split.
    file_begun rows more left (g.F.Folder.tree c.begin_file.new.folder) c.begin_file.new.self c.args.path c.args.node c.in-File.node c.in-File.is
    (begins rows more h) split)

pub returns-in-Dir-clause-holds : goal.returns-in-Dir-clause-holds
returns-in-Dir-clause-holds g c = on_ok c.add_dir.result c.add_dir.ensures.stands (λ adds rows more left h split.
    row_begun rows more left (g.F.Folder.tree c.args.folder.now) (g.F.Folder.tree c.add_dir.new.folder) c.args.self.now _
    (c.args.path, I.Dir c.in-Dir.dir) (begun_at rows c.args.path c.args.node) (ap (begun_at rows c.args.path) c.in-Dir.is)
    refl (λ later s. adds rows later c.args.self.now.noted.items s) h split)

pub returns-in-Link-clause-holds : goal.returns-in-Link-clause-holds
returns-in-Link-clause-holds g c = on_ok c.add_link.result c.add_link.ensures.stands (λ adds rows more left h split.
    row_begun rows more left (g.F.Folder.tree c.args.folder.now) (g.F.Folder.tree c.add_link.new.folder) c.args.self.now _
    (c.args.path, I.Link c.in-Link.link) (begun_at rows c.args.path c.args.node) (ap (begun_at rows c.args.path) c.in-Link.is)
    refl (λ later s. adds rows later c.args.self.now.noted.items s) h split)
