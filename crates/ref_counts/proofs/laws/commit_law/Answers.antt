use Rattle.ref_counts.specs.StoredLaws.{stored-before, stored-with_new, total-with_new}
use Rattle.ref_counts.proofs.laws.commit_law.Goals as goal

pub returns-clause-before : goal.returns-clause-before
returns-clause-before c = stored-before

pub returns-clause-after : goal.returns-clause-after
returns-clause-after c = stored-with_new

pub returns-clause-total : goal.returns-clause-total
returns-clause-total c = total-with_new
