-- There is no line of the number, as the look-up says.
use Rattle.std.specs.Prelude.{Some}
use Rattle.std.proofs.Common.{ap, ◌∙◌}
use Rattle.std.proofs.lemmas.Result.{err_from_is_err_and}
use Rattle.office_model.specs.declared.refusal.BrokenRule.{BrokenRule}
use Rattle.store_deletions.specs.Shortens.{broken_at}
use Rattle.store_deletions.proofs.judge.deletable.Goals as goal

pub returns-in_err-line-clause-broken : goal.returns-in_err-line-clause-broken
returns-in_err-line-clause-broken g c =
    let p = err_from_is_err_and c.from_residual.result c.from_residual.ensures.1 in
    rw p.1 (λ index there.
    ap (λ (rule : BrokenRule). Some rule) (p.2 ∙ c.in_err-line.ensures.rule)
    ∙ ap (broken_at index.lines) (c.in_err-line.ensures.none index there))
