-- One more table.
use Rattle.std.proofs.Common.{◌≡◌, ◌+◌, ◌<◌, ℕ, List, [], ◌∷◌, ◌++◌, length, take, get_or, sym, ap, ◌∙◌, arith}
use Rattle.std.proofs.lemmas.List.{take_more}
use Rattle.disk_trait.specs.declared.ids.PoolId.{PoolId}
use Rattle.merge_view.specs.Views.{Rows}
use Rattle.stored_trees.specs.Occurrences.{occurrences}
use Rattle.ref_counts.specs.Numbers.{total, capped}
use Rattle.ref_counts.specs.NumberLaws.{total-append}
use Rattle.ref_counts.proofs.tally.count_tables.Goals as goal

nothing_more : (a b : ℕ) → a + b ≡ a + (b + 0)
nothing_more a b = omega arith

one_table : (id : PoolId) (tables : List Rows) (i : ℕ) (table : Rows) → i < length tables → table ≡ get_or tables i table
    → capped (total id (take i tables) + occurrences id table) ≡ capped (total id (take (i + 1) tables))
one_table id tables i table within is =
    let more : take (i + 1) tables ≡ take i tables ++ table ∷ [] = take_more tables i table within ∙ ap (λ t. take i tables ++ t ∷ []) (sym is) in
    ap capped (nothing_more (total id (take i tables)) (occurrences id table)
    ∙ sym (total-append id (take i tables) (table ∷ [])) ∙ ap (total id) (sym more))

pub loop-table-preserved : goal.loop-table-preserved
loop-table-preserved c = λ id.
    c.in_ok-count.ensures id (total id (take c.loop-table.table-index c.args.tables.now)) (c.loop-table.invariant id)
    ∙ one_table id c.args.tables.now c.loop-table.table-index c.table-item.result c.loop-table-test.true c.table-item.is
