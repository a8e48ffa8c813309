use Rattle.std.proofs.Common.{refl, ap, ◌∙◌}
use Rattle.attr_records.specs.declared.nodes.Item.TheVariants as I
use Rattle.folder_trait.specs.Folders.{with_made}
use Rattle.folder_making.proofs.adding.add_begun.Goals as goal

pub returns-clause-begun : goal.returns-clause-begun
returns-clause-begun g c = record {
  path_is = refl;
  node_is = refl;
  came_is = refl;
  before = g.F.Folder.tree c.finish_others.new.folder;
  made = c.in-Ok-make.ensures.made ∙ ap (λ bytes. with_made (g.F.Folder.tree c.finish_others.new.folder) c.args.path
      (I.File (record { attr = c.args.node.attr; group = c.args.node.group; bytes = bytes }))) c.new.ensures;
  stands = λ rows later item noted s. c.in-Ok.ensures.stands rows later item noted s;
}
