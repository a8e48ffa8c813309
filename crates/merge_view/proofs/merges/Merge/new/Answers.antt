-- The entries of the other tables, laid over the filled one, are those of all; those that are no marks are the whole.
use Rattle.std.proofs.Common.{◌≡◌, ◌-◌, ◌≤◌, List, [], ◌∷◌, length, get_or, take, drop, sym, ap, ◌∙◌, subst, arith}
use Rattle.std.proofs.lemmas.List.{take_all}
use Rattle.attr_records.specs.Paths.{path_cmp}
use Rattle.ordered_lists.specs.Order.{IsInOrder}
use Rattle.merge_view.specs.Views.{Rows, IsWhole, stacked, without_marks}
use Rattle.merge_view.specs.Tables.{AllInOrder, stack, whole}
use Rattle.merge_view.specs.TableLaws.{whole-stack, IsWhole-whole}
use Rattle.merge_view.proofs.merges.Merge.new.Goals as goal

others_are : (first : Rows) (others : List Rows) → take (length (first ∷ others) - 1) (drop 1 (first ∷ others)) ≡ others
others_are first others = take_all (length (first ∷ others) - 1) others (omega arith)

all_in_order : (tables : List Rows) (filled : Rows) → 1 ≤ length tables → filled ≡ get_or tables 0 filled → IsInOrder path_cmp filled
    → AllInOrder (take (length tables - 1) (drop 1 tables)) → AllInOrder tables
all_in_order [] filled some is order orders = absurd (omega arith)
all_in_order (first ∷ others) filled some is order orders =
    (subst (IsInOrder path_cmp) is order, subst AllInOrder (others_are first others) orders)

shown : (tables : List Rows) (filled entries lower rows : Rows) → 1 ≤ length tables → filled ≡ get_or tables 0 filled
    → entries ≡ stack (take (length tables - 1) (drop 1 tables)) → lower ≡ filled → rows ≡ stacked entries lower
    → AllInOrder tables → without_marks rows ≡ whole tables
shown [] filled entries lower rows some is a b e orders = absurd (omega arith)
shown (first ∷ others) filled entries lower rows some is a b e orders =
    ap without_marks (e ∙ (λ i. stacked ((a ∙ ap stack (others_are first others)) i) ((b ∙ is) i)))
    ∙ whole-stack (first ∷ others) orders

pub returns-in_ok-rows-in-len1-up-clause-value : goal.returns-in_ok-rows-in-len1-up-clause-value
returns-in_ok-rows-in-len1-up-clause-value c =
    let orders = all_in_order c.args.tables.now c.filled-item.result (omega arith) c.filled-item.is c.rows.ensures.in_order c.in_ok-entries-in-len1-up.ensures.in_order in
    shown c.args.tables.now c.filled-item.result _ _ _ (omega arith) c.filled-item.is c.in_ok-entries-in-len1-up.ensures.value
    c.rows.ensures.rows c.in_ok-rows-in-len1-up.ensures orders

pub returns-in_ok-rows-in-len1-up-clause-is_whole : goal.returns-in_ok-rows-in-len1-up-clause-is_whole
returns-in_ok-rows-in-len1-up-clause-is_whole c =
    let orders = all_in_order c.args.tables.now c.filled-item.result (omega arith) c.filled-item.is c.rows.ensures.in_order c.in_ok-entries-in-len1-up.ensures.in_order in
    subst IsWhole (sym (returns-in_ok-rows-in-len1-up-clause-value c)) (IsWhole-whole c.args.tables.now orders)
