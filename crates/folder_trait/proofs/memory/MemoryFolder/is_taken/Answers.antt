use Rattle.std.proofs.Common.{◌∙◌, ap, is_some}
use Rattle.attr_records.specs.Paths.{path_cmp}
use Rattle.ordered_lists.specs.OrderLaws.{lookup-find}
use Rattle.folder_trait.proofs.memory.MemoryFolder.is_taken.Goals as goal

pub returns : goal.returns
returns c = c.contains_key.ensures ∙ ap is_some (lookup-find path_cmp c.args.path.now c.args.self.now.tree.entries)
