-- What a merge gives up to its end is all that it had to give.
use Rattle.std.proofs.Common.{◌≡◌, List, [], ◌++◌, ap, sym, ◌∙◌}
use Rattle.std.proofs.lemmas.List.{append-nil}
use Rattle.merge_view.specs.Views.{Rows}
use Rattle.merge_view.specs.Tables.{whole}
use Rattle.merge_view.specs.TableLaws.{whole-reverses}
use Rattle.merge_view.proofs.views.whole.Goals as goal

all_given : (tables : List Rows) (rows left tree : Rows) → rows ++ left ≡ whole tables → [] ≡ left → tree ≡ rows → tree ≡ whole tables
all_given tables rows left tree so_far none e =
    e ∙ sym (append-nil rows) ∙ ap (λ (rest : Rows). rows ++ rest) none ∙ so_far

pub returns-clause-stored : goal.returns-clause-stored
returns-clause-stored c = λ filled trees a b is.
    all_given c.args.tables.now c.given.rows.items c.given.merge _ c.given.invariant c.in_default.ensures.given c.from_rows.ensures
    ∙ ap whole is ∙ whole-reverses filled trees a b
