use Rattle.std.proofs.Common.{◌≡◌}
use Rattle.folder_walk.specs.Bases.{ListsSoFar}
use Rattle.folder_walk.proofs.comparing.gone_paths.Given as goal

abbrev pub invariant-loop-turn : goal.invariant-loop-turn
invariant-loop-turn g l = record {
  lists : ListsSoFar g.P.Port.moves l.fn.port l.port (g.F.Folder.tree l.fn.folder) l.host l.number l.pending.items l.gone.items;
  same : g.F.Folder.tree l.folder ≡ g.F.Folder.tree l.fn.folder;
  faultless : g.F.Folder.fault_count l.folder ≡ g.F.Folder.fault_count l.fn.folder;
}
