use Rattle.std.proofs.Common.{◌≡◌}
use Rattle.folder_restore.specs.Turns.{MakesSoFar}
use Rattle.folder_restore.proofs.restoring.make_all.Given as goal

abbrev pub invariant-loop-turn : goal.invariant-loop-turn
invariant-loop-turn g l = record {
  so_far : MakesSoFar g.P.Port.moves l.fn.port l.port l.restore (g.F.Folder.tree l.fn.folder) (g.F.Folder.tree l.folder) l.making;
  faultless : g.F.Folder.fault_count l.folder ≡ g.F.Folder.fault_count l.fn.folder;
}
