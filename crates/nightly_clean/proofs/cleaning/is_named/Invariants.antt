-- None of the counts so far names it.
use Rattle.std.proofs.Common.{◌≡◌, drop}
use Rattle.nightly_clean.specs.Cleanings.{is_named}
use Rattle.nightly_clean.proofs.cleaning.is_named.Given as goal

abbrev pub invariant-loop-host : goal.invariant-loop-host
invariant-loop-host l = is_named l.counts l.id ≡ is_named (drop l.host-index l.counts) l.id
