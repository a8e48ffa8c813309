use Rattle.std.proofs.Common.{rules, take}
use Rattle.std.proofs.lemmas.Fn.{always_returns_same}
use Rattle.certificates.specs.Layout.{id_cmp}
use Rattle.certificate_judge.proofs.Halving.{found, missing}
use Rattle.certificate_judge.proofs.finding.find_file.Goals as goal

pub returns-in-Ok-clause-value : goal.returns-in-Ok-clause-value
returns-in-Ok-clause-value c = λ rising.
    found c.args.id.now c.args.records.now c.in-Ok.index rising c.in-Ok.ensures.bound
    (c.in-Ok.ensures.position (λ r. id_cmp (take 18 r) c.args.id.now) (always_returns_same _ _ _ (λ a r f' t. search rules)))

pub returns-in-Err-clause-value : goal.returns-in-Err-clause-value
returns-in-Err-clause-value c = λ rising.
    missing c.args.id.now c.args.records.now c.in-Err.field-0 rising c.in-Err.ensures.bound
    (c.in-Err.ensures.position (λ r. id_cmp (take 18 r) c.args.id.now) (always_returns_same _ _ _ (λ a r f' t. search rules)))
