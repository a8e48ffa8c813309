-- The last line is the one at the length less one.
use Rattle.std.proofs.Common.{◌-◌, ◌∙◌, slice_set, get_or}
use Rattle.std.proofs.lemmas.Bool.{false≢true}
use Rattle.backup_delete.specs.Folds.{filled}
use Rattle.backup_delete.proofs.Steps.{no_line, last_set}
use Rattle.backup_delete.proofs.lines.fill_last.Goals as goal

pub returns : goal.returns
returns c =
    c.set.ensures
    ∙ (λ k. slice_set c.args.lines.now (c.len-index.result - 1) (filled (get_or (c.lines.ensures k) (c.len-index.result - 1) no_line)))
    ∙ last_set c.args.lines.now c.len-index.result c.len-index.ensures (λ e. false≢true (c.if-is_empty.ensures.1 e))
