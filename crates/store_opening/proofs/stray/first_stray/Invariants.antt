use Rattle.std.proofs.Common.{◌≡◌, drop}
use Rattle.store_opening.specs.Strays.{first_stray}
use Rattle.store_opening.proofs.stray.first_stray.Given as goal

abbrev pub invariant-loop-file : goal.invariant-loop-file
invariant-loop-file l =
    first_stray l.catalog.hosts l.headed (drop l.file-index l.files) ≡ first_stray l.catalog.hosts l.headed l.files
