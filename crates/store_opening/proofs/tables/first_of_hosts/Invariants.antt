use Rattle.std.specs.BTreeSet.{contains}
use Rattle.std.proofs.Common.{◌≡◌, drop}
use Rattle.disk_trait.specs.Order.{file_cmp}
use Rattle.store_opening.specs.Tables.{first_of_hosts}
use Rattle.store_opening.proofs.tables.first_of_hosts.Given as goal

abbrev pub invariant-loop-index : goal.invariant-loop-index
invariant-loop-index l =
    first_of_hosts (contains file_cmp l.tables) (drop l.index-index l.hosts) ≡ first_of_hosts (contains file_cmp l.tables) l.hosts
