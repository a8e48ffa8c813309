use Rattle.std.proofs.Common.{◌≡◌}
use Rattle.folder_making.proofs.noted.earlier_of.Given as goal

abbrev pub invariant-loop-index : goal.invariant-loop-index
invariant-loop-index g l = record {
  same : g.F.Folder.tree l.folder ≡ g.F.Folder.tree l.fn.folder;
  faultless : g.F.Folder.fault_count l.folder ≡ g.F.Folder.fault_count l.fn.folder;
}
