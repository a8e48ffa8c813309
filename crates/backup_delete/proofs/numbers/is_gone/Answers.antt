-- A search finds a number exactly if it is among them.
use Rattle.std.proofs.Common.{ℕ, List, ap, ◌∙◌}
use Rattle.backup_delete.specs.Trees.{is_gone}
use Rattle.backup_delete.proofs.Found.{found_is}
use Rattle.backup_delete.proofs.numbers.is_gone.Goals as goal

pub returns : goal.returns
returns c = c.is_ok.ensures.value ∙ found_is _ _ c.args.number _ _ c.numbers.invariant c.as_slice.ensures.value c.binary_search.ensures.position
    ∙ ap (λ (ns : List ℕ). is_gone ns c.args.number) c.numbers.view_is
