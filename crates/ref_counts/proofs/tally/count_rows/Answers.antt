-- One more row.
use Rattle.std.proofs.Common.{◌≡◌, ◌+◌, ◌<◌, ℕ, List, [], ◌∷◌, ◌++◌, length, take, get_or, sym, ap, ◌∙◌, if◌then◌else◌, arith}
use Rattle.std.proofs.lemmas.List.{take_more}
use Rattle.disk_trait.specs.declared.ids.PoolId.{PoolId}
use Rattle.attr_tables.specs.declared.records.Record.{Record}
use Rattle.merge_view.specs.Views.{Rows}
use Rattle.stored_trees.specs.Occurrences.{names, occurrences}
use Rattle.ref_counts.specs.Numbers.{capped}
use Rattle.ref_counts.specs.NumberLaws.{occurrences-append}
use Rattle.ref_counts.proofs.tally.count_rows.Goals as goal

moved : (n a b : ℕ) → (n + a) + b ≡ n + (a + (b + 0))
moved n a b = omega arith

one_row : (id : PoolId) (rows : Rows) (i : ℕ) (row : List ℕ × Record) (node : Record) (n : ℕ) → i < length rows → row ≡ get_or rows i row → node ≡ row.1
    → capped ((n + occurrences id (take i rows)) + (if names id node then 1 else 0)) ≡ capped (n + occurrences id (take (i + 1) rows))
one_row id rows i row node n within is node_is =
    let more : take (i + 1) rows ≡ take i rows ++ row ∷ [] = take_more rows i row within ∙ ap (λ r. take i rows ++ r ∷ []) (sym is) in
    ap (λ x. capped ((n + occurrences id (take i rows)) + (if names id x then 1 else 0))) node_is
    ∙ ap capped (moved n (occurrences id (take i rows)) (if names id row.1 then 1 else 0)
    ∙ ap (λ m. n + m) (sym (occurrences-append id (take i rows) (row ∷ [])) ∙ ap (occurrences id) (sym more)))

pub loop-row-preserved : goal.loop-row-preserved
loop-row-preserved c = record {
  number = λ id n is.
      c.in_ok-count_record.ensures.number id (n + occurrences id (take c.loop-row.row-index c.args.rows.now)) (c.loop-row.invariant.number id n is)
      ∙ one_row id c.args.rows.now c.loop-row.row-index c.row-item.result _ n c.loop-row-test.true c.row-item.is c.node.ensures.value;
  some = λ h. c.in_ok-count_record.ensures.some (c.loop-row.invariant.some h);
}
