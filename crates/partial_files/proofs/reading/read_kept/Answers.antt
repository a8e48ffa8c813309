-- A row that is kept, a deletion mark, and where no row stands.
use Rattle.std.proofs.Common.{ℕ, Some, refl, ap, sym, ◌∙◌}
use Rattle.std.proofs.lemmas.Bool.{false≢true}
use Rattle.wire_bytes.specs.GrammarLaws.{field_fits, refused_by, other_refuses, narrow_finds, narrow_refuses, misfit_refuses}
use Rattle.attr_tables.specs.declared.layouts.TableLayout.TheVariants.{Second}
use Rattle.attr_tables.specs.Layout.{row_bytes, IsRow}
use Rattle.partial_files.specs.Layout.{IsKept}
use Rattle.partial_files.proofs.reading.read_kept.Goals as goal

pub returns-in_err-row : goal.returns-in_err-row
returns-in_err-row c =
    refused_by _ _ _ c.from_residual.ensures.1
    (λ e told. other_refuses (narrow_refuses IsKept (row_bytes Second) (λ row kept. kept.0) c.in_err-row.ensures) told)

pub returns-then-is_mark : goal.returns-then-is_mark
returns-then-is_mark c =
    misfit_refuses IsKept (row_bytes Second) (λ row kept. kept.0) c.in_ok-row.ensures
    (λ kept. kept.1 (sym c.node.ensures.value ∙ c.if-is_mark.ensures.0 refl))
    (ap (λ (n : ℕ). Some n) c.offset-start.ensures.value)

pub returns : goal.returns
returns c = narrow_finds IsKept (row_bytes Second) (λ row kept. kept.0) c.in_ok-row.ensures
    (field_fits (IsRow Second) (row_bytes Second) c.in_ok-row.ensures, λ mark. false≢true (c.if-is_mark.ensures.1 (c.node.ensures.value ∙ mark)))
