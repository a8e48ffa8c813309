use Rattle.backup_delete.proofs.Found.{made_sorted}
use Rattle.backup_delete.proofs.numbers.sorted_numbers.Goals as goal

pub returns : goal.returns
returns c = made_sorted _ _ _ c.in_ok-sorted.ensures.items c.sort_unstable.ensures.permutation c.sort_unstable.ensures.sorted
