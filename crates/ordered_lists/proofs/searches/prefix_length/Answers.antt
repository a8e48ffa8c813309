-- std's partition point, as what passes and what fails.
use Rattle.ordered_lists.proofs.SearchSteps.{parted_at}
use Rattle.ordered_lists.proofs.searches.prefix_length.Goals as goal

pub returns-clause-parted : goal.returns-clause-parted
returns-clause-parted g c = λ p by parted.
    parted_at p c.args.items.now c.partition_point.result (c.partition_point.ensures.partitioned p by parted)
