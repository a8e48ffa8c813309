-- One more row behind those that were written.
use Rattle.std.proofs.Common.{◌≡◌, ℕ, ◌+◌, ◌<◌, List, [], ◌∷◌, ◌++◌, length, take, get_or, sym, ap, ◌∙◌}
use Rattle.std.specs.List.{AllByRecursion}
use Rattle.std.proofs.lemmas.List.{take_more}
use Rattle.wire_bytes.specs.ItemLaws.{items_put_more, AreItems-snoc, AreItems-from_all, AllByRecursion-from_items}
use Rattle.attr_tables.specs.declared.layouts.TableLayout.TheVariants.{Second}
use Rattle.attr_tables.specs.declared.records.Record.{Record}
use Rattle.attr_tables.specs.Layout.{Rows, row_bytes, IsRow}
use Rattle.attr_tables.proofs.writing.put_rows.Goals as goal

fits : (rows : Rows) (i : ℕ) (row : List ℕ × Record) → i < length rows → row ≡ get_or rows i row
    → AllByRecursion (IsRow Second) (take i rows) → IsRow Second row → AllByRecursion (IsRow Second) (take (i + 1) rows)
fits rows i row within is before here =
    let more : take (i + 1) rows ≡ take i rows ++ row ∷ [] = take_more rows i row within ∙ ap (λ r. take i rows ++ r ∷ []) (sym is) in
    rw more (AllByRecursion-from_items (IsRow Second) [] (take i rows ++ row ∷ [])
    (AreItems-snoc (λ _. IsRow Second) [] (take i rows) row (AreItems-from_all (IsRow Second) [] (take i rows) before) here))

pub loop-row-preserved : goal.loop-row-preserved
loop-row-preserved c = record {
  written = items_put_more (row_bytes Second) c.args.rows.now c.loop-row.row-index c.row-item.result c.row-item.result _ _ _
      c.loop-row-test.true c.row-item.is c.loop-row.invariant.written c.in_ok-put_row.ensures.ok;
  fits = fits c.args.rows.now c.loop-row.row-index c.row-item.result c.loop-row-test.true c.row-item.is c.loop-row.invariant.fits
      c.in_ok-put_row.ensures.fits;
}
