-- A further row, and where there is none.
use Rattle.std.proofs.Common.{ℕ, Some, ap, sym, ◌∙◌}
use Rattle.std.proofs.lemmas.Bool.{false≢true}
use Rattle.wire_bytes.specs.GrammarLaws.{field_fits, refused_again, narrow_finds, narrow_refuses, misfit_refuses}
use Rattle.wire_bytes.specs.ItemLaws.{items_read_more, items_refuse, items_find}
use Rattle.attr_tables.specs.declared.layouts.TableLayout.TheVariants.{Second}
use Rattle.attr_tables.specs.Layout.{row_bytes}
use Rattle.partial_files.specs.Layout.{IsKept, IsNext}
use Rattle.partial_files.proofs.reading.read_rows.Goals as goal

pub returns-in_err-row : goal.returns-in_err-row
returns-in_err-row c =
    refused_again _ _ _ c.from_residual.ensures.1
    (items_refuse c.loop-i-test.true c.loop-i.invariant (narrow_refuses (IsNext c.loop-i.rows) (row_bytes Second) (λ row next. next.0) c.in_err-row.ensures))

pub returns-in-Err-NotRising : goal.returns-in-Err-NotRising
returns-in-Err-NotRising c =
    items_refuse c.loop-i-test.true c.loop-i.invariant
    (misfit_refuses (IsNext c.loop-i.rows) (row_bytes Second) (λ row next. next.0) c.in_ok-row.ensures
    (λ next. false≢true (sym (c.in-Err-NotRising.ensures.not_rising c.in-Err-NotRising.field-0-is) ∙ next.1))
    (ap (λ (n : ℕ). Some n) c.offset-start.ensures.value))

pub loop-i-preserved : goal.loop-i-preserved
loop-i-preserved c = rw c.in-Ok.ensures.ok
    (items_read_more c.loop-i-test.true c.loop-i.invariant (narrow_finds (IsNext c.loop-i.rows) (row_bytes Second) (λ row next. next.0)
    c.in_ok-row.ensures (field_fits IsKept (row_bytes Second) c.in_ok-row.ensures, c.in-Ok.ensures.rising)))

pub returns : goal.returns
returns c = items_find c.loop-i-test.false c.loop-i.auto._i-end c.loop-i.invariant
