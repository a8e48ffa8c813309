use Rattle.std.proofs.Common.{◌≡◌, ◌-◌}
use Rattle.folder_walk.specs.Puts.{TakesSoFar}
use Rattle.folder_walk.proofs.staging.send_pieces.Given as goal

abbrev pub invariant-loop-from : goal.invariant-loop-from
invariant-loop-from g l = record {
  takes : TakesSoFar g.P.Port.moves l.fn.port l.port (g.F.Folder.tree l.fn.folder) l.path l.size l.stage l.from;
  same : g.F.Folder.tree l.folder ≡ g.F.Folder.tree l.fn.folder;
  faultless : g.F.Folder.fault_count l.folder ≡ g.F.Folder.fault_count l.fn.folder;
}

abbrev pub decreases-loop-from : goal.decreases-loop-from
decreases-loop-from g l = l.size - l.from
