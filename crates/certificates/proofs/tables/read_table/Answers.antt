-- The number, and then the ids.
use Rattle.std.proofs.Common.{refl}
use Rattle.wire_bytes.specs.Grammar.{field}
use Rattle.wire_bytes.specs.GrammarLaws.{field_finds, field_refuses, then_finds, then_refuses, first_refuses, seen_finds, seen_refuses}
use Rattle.certificates.specs.Layout.{AreIds, ids_bytes, table_grammar, table_sees}
use Rattle.certificates.proofs.tables.read_table.Goals as goal

pub returns-in-Err : goal.returns-in-Err
unfolding table_grammar
returns-in-Err c = seen_refuses table_sees (first_refuses (λ _. field AreIds ids_bytes) (field_refuses c.in-Err.ensures.field.reads c.in-Err.ensures.here))

pub returns-in-Err-read_ids : goal.returns-in-Err-read_ids
unfolding table_grammar
returns-in-Err-read_ids c = seen_refuses table_sees (then_refuses (λ _. field AreIds ids_bytes) (field_finds c.in-Ok.ensures.field.reads) c.in-Err-read_ids.ensures)

pub returns-in-Ok-read_ids : goal.returns-in-Ok-read_ids
unfolding table_grammar
returns-in-Ok-read_ids c = record {
  value = record { number = c.in-Ok.number; ids = c.in-Ok-read_ids.ensures.value };
  tells = record { number = refl; ids = c.in-Ok-read_ids.ensures.tells };
  finds = seen_finds table_sees (then_finds (λ _. field AreIds ids_bytes) (field_finds c.in-Ok.ensures.field.reads) c.in-Ok-read_ids.ensures.finds);
}
