use Rattle.std.proofs.Common.{◌≡◌, ◌∷◌, List, vec_len}
use Rattle.attr_records.specs.declared.nodes.Item.{Item}
use Rattle.attr_records.specs.Items.{Tree}
use Rattle.folder_making.specs.declared.noted.Noted.{Noted}
use Rattle.folder_making.specs.Standing.{Stands}
use Rattle.folder_making.proofs.dirs.finish_others.Given as goal

abbrev pub invariant-loop-last : goal.invariant-loop-last
invariant-loop-last g l = record {
  stands : (rows more : Tree) (item : Item) (noted : List Noted)
      → Stands rows ((l.path, item) ∷ more) (g.F.Folder.tree l.fn.folder) l.fn.dirs.items noted
      → Stands rows ((l.path, item) ∷ more) (g.F.Folder.tree l.folder) l.dirs.items noted;
  faultless : g.F.Folder.fault_count l.folder ≡ g.F.Folder.fault_count l.fn.folder;
}

abbrev pub decreases-loop-last : goal.decreases-loop-last
decreases-loop-last g l = vec_len l.dirs
