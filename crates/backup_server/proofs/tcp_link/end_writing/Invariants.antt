use Rattle.backup_server.proofs.tcp_link.end_writing.Given as goal

abbrev pub invariant-loop-left : goal.invariant-loop-left
invariant-loop-left g l = Unit {0}

abbrev pub decreases-loop-left : goal.decreases-loop-left
decreases-loop-left g l = l.left
