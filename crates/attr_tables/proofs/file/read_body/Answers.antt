-- The layout, the number of rows, and the rows.
use Rattle.std.proofs.Common.{◌∙◌}
use Rattle.wire_bytes.specs.Grammar.{sees_counted}
use Rattle.wire_bytes.specs.GrammarLaws.{field_finds, field_refuses, refused_again, refused_by, then_finds, then_refuses, first_refuses, seen_finds, seen_refuses}
use Rattle.attr_tables.specs.TableLaws.{sees_table}
use Rattle.attr_tables.proofs.file.read_body.Goals as goal

pub returns-in_err-layout : goal.returns-in_err-layout
returns-in_err-layout c = refused_again _ _ _ c.from_residual.ensures.1 (seen_refuses sees_table (first_refuses _ c.in_err-layout.ensures))

pub returns-in_err-count : goal.returns-in_err-count
returns-in_err-count c =
    refused_by _ _ _ c.from_residual-in_err-count.ensures.1
    (λ e told. seen_refuses sees_table (then_refuses _ c.in_ok-layout.ensures (seen_refuses (sees_counted _ _ _ _)
    (first_refuses _ (field_refuses c.in_err-count.ensures.field.reads (told ∙ c.in_err-count.ensures.here))))))

pub returns-in_err-table : goal.returns-in_err-table
returns-in_err-table c =
    refused_again _ _ _ c.from_residual-in_err-table.ensures.1
    (seen_refuses sees_table (then_refuses _ c.in_ok-layout.ensures
    (seen_refuses (sees_counted _ _ _ _) (then_refuses _ (field_finds c.in_ok-count.ensures.field.reads) c.in_err-table.ensures))))

pub returns : goal.returns
returns c = seen_finds sees_table (then_finds _ c.in_ok-layout.ensures
    (seen_finds (sees_counted _ _ _ _) (then_finds _ (field_finds c.in_ok-count.ensures.field.reads) c.in_ok-table.ensures)))
