use Rattle.std.proofs.Common.{◌≡◌, drop}
use Rattle.office_model.specs.Repeats.{receipt_named}
use Rattle.tree_tokens.proofs.commits.receipt_named.Given as goal

-- what is still to be looked at decides
abbrev pub invariant-loop-host : goal.invariant-loop-host
invariant-loop-host l = receipt_named (drop l.host-index l.hosts) l.name ≡ receipt_named l.hosts l.name
