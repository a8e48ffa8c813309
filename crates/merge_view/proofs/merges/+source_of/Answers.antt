-- One table is its own stack, and the stack of two halves is their stacks laid over each other.
use Rattle.std.proofs.Common.{◌≡◌, List, [], ◌∷◌, ◌++◌, ◌-◌, ◌/◌, take, drop, length, get_or, sym, ap, subst, ◌∙◌, arith}
use Rattle.std.proofs.lemmas.Grind.{common_steps}
use Rattle.attr_records.specs.Paths.{path_cmp}
use Rattle.ordered_lists.specs.Order.{IsInOrder}
use Rattle.merge_view.specs.Views.{Rows, stacked}
use Rattle.merge_view.specs.Tables.{AllInOrder, stack}
use Rattle.merge_view.specs.TableLaws.{stack-one, stack-append, AllInOrder-append}
use Rattle.merge_view.proofs.merges.+source_of.Goals as goal

one : (tables : List Rows) (table rows : Rows) → length tables ≡ 1 → table ≡ get_or tables 0 table → IsInOrder path_cmp table
    → rows ≡ table → rows ≡ stack tables
one [] table rows some is order e = absurd (omega arith)
one (first ∷ []) table rows some is order e = e ∙ sym (stack-one table order) ∙ ap (λ t. stack (t ∷ [])) is
one (first ∷ second ∷ tables) table rows some is order e = absurd (omega arith)

halves : (tables front back : List Rows) (newer older made : Rows) → tables ≡ front ++ back → newer ≡ stack front → older ≡ stack back
    → AllInOrder front → AllInOrder back → made ≡ stacked older newer → made ≡ stack tables
halves tables front back newer older made parts a b g h e =
    e ∙ (λ i. stacked (b i) (a i)) ∙ sym (stack-append front back g h) ∙ ap stack (sym parts)

pub returns-in-len1-clause-value : goal.returns-in-len1-clause-value
returns-in-len1-clause-value t c =
    one c.args.tables.now c.table-item.result c.rows.result.now (omega arith) c.table-item.is c.rows.ensures.in_order c.rows.ensures.rows

pub returns-in_ok-laid_over-in_default-clause-value : goal.returns-in_ok-laid_over-in_default-clause-value
returns-in_ok-laid_over-in_default-clause-value t c =
    let count = length c.args.tables.now in
    halves c.args.tables.now (take (count / 2) c.args.tables.now) (take (count - count / 2) (drop (count / 2) c.args.tables.now)) _ _ _
    (grind (arith, common_steps)) c.in_ok-newer-in_default.ensures.value c.in_ok-older-in_default.ensures.value
    c.in_ok-newer-in_default.ensures.in_order c.in_ok-older-in_default.ensures.in_order c.in_ok-laid_over-in_default.ensures

pub returns-in_ok-laid_over-in_default-clause-in_order : goal.returns-in_ok-laid_over-in_default-clause-in_order
returns-in_ok-laid_over-in_default-clause-in_order t c =
    let count = length c.args.tables.now in
    let front = take (count / 2) c.args.tables.now in
    let back = take (count - count / 2) (drop (count / 2) c.args.tables.now) in
    let parts : c.args.tables.now ≡ front ++ back = grind (arith, common_steps) in
    subst AllInOrder (sym parts)
    (AllInOrder-append front back c.in_ok-newer-in_default.ensures.in_order c.in_ok-older-in_default.ensures.in_order)
