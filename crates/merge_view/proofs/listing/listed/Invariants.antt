use Rattle.std.proofs.Common.{◌≡◌, ◌++◌, drop}
use Rattle.std.specs.Option.{option_copied}
use Rattle.merge_view.specs.Runs.{children}
use Rattle.merge_view.proofs.listing.listed.Given as goal

abbrev pub invariant-loop-row : goal.invariant-loop-row
invariant-loop-row l =
    l.found.items ++ children (option_copied l.directory) (drop l.row-index l.rows) ≡ children (option_copied l.directory) l.rows
