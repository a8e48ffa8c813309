use Rattle.ref_counts.specs.NumberLaws.{same_counts}
use Rattle.ref_counts.proofs.laws.same_counts_law.Goals as goal

pub returns : goal.returns
returns c = same_counts
