use Rattle.std.proofs.Common.{◌≡◌, ◌++◌, drop}
use Rattle.std.specs.Option.{option_copied}
use Rattle.store_reads.specs.Shown.{entries_told}
use Rattle.store_reads.proofs.list_event.listed.Given as goal

-- what was listed, and what is still to be
abbrev pub invariant-loop-row : goal.invariant-loop-row
invariant-loop-row l =
    l.list ++ entries_told (option_copied l.directory) (drop l.row-index l.rows) ≡ entries_told (option_copied l.directory) l.rows
