-- A row that stands next, and none.
use Rattle.std.proofs.Common.{ℕ, Some, sym, ap, subst}
use Rattle.wire_bytes.specs.GrammarLaws.{field_finds, field_refuses}
use Rattle.wire_bytes.specs.GrammarReading.{Finds}
use Rattle.wire_bytes.specs.Grammar.{field}
use Rattle.attr_tables.specs.Layout.{row_bytes, IsRow}
use Rattle.attr_tables.proofs.file.next_row.Goals as goal

pub returns-in-Err : goal.returns-in-Err
returns-in-Err c = field_refuses c.in-Err.ensures (ap (λ (n : ℕ). Some n) c.offset-start.ensures.value)

pub returns : goal.returns
returns c =
    subst (λ row. Finds (field (IsRow c.args.layout) (row_bytes c.args.layout)) c.args.reader.now row c.read_row.new.reader)
    (sym c.in_ok-row.ensures) (field_finds c.in-Ok.ensures)
