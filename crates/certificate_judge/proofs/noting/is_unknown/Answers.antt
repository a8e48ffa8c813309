-- What isn't among the items, or not among the files.
use Rattle.std.proofs.Common.{Bool, Option, ℕ, is_none, ap, ◌∙◌, ◌||◌, ◌==◌}
use Rattle.certificate_judge.specs.Faults.{number_of}
use Rattle.certificate_judge.specs.Judging.{ids_in}
use Rattle.certificate_judge.proofs.Parts.{told_none, none_at}
use Rattle.certificate_judge.proofs.noting.is_unknown.Goals as goal

pub returns : goal.returns
returns c = λ known.
    let items = told_none _ _ c.is_none-no_item.ensures ∙ ap (λ (o : Option ℕ). is_none o) (c.find_item.ensures.value known.items) ∙ none_at c.args.id.now (ids_in c.args.known.now.items.now) in
    let files = told_none _ _ c.is_none-no_file.ensures ∙ ap (λ (o : Option ℕ). is_none o) (c.find_file.ensures.value known.pool) ∙ none_at c.args.id.now (ids_in c.args.known.now.pool.now) in
    c.either.ensures ∙ ap (λ (b : Bool). b || c.is_none-no_file.result) items ∙ ap (λ (b : Bool). (number_of c.args.id.now (ids_in c.args.known.now.items.now) == 0) || b) files
