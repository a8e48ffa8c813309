-- The name, the tables, the partial's ids, and the items.
use Rattle.std.proofs.Common.{refl}
use Rattle.wire_bytes.specs.Grammar.{field, followed_by}
use Rattle.wire_bytes.specs.GrammarLaws.{field_finds, field_refuses, then_finds, then_refuses, first_refuses, seen_finds, seen_refuses}
use Rattle.certificates.specs.Layout.{AreIds, ids_bytes, tables_grammar, items_grammar, host_grammar, host_sees}
use Rattle.certificates.proofs.reading.read_parts.Goals as goal

pub returns-in-Err : goal.returns-in-Err
unfolding host_grammar
returns-in-Err c = seen_refuses host_sees
    (first_refuses (λ _. followed_by tables_grammar (λ _. followed_by (field AreIds ids_bytes) (λ _. items_grammar)))
    (field_refuses c.in-Err.ensures.field.reads c.in-Err.ensures.here))

pub returns-in-Err-read_tables : goal.returns-in-Err-read_tables
unfolding host_grammar
returns-in-Err-read_tables c = seen_refuses host_sees
    (then_refuses (λ _. followed_by tables_grammar (λ _. followed_by (field AreIds ids_bytes) (λ _. items_grammar))) (field_finds c.in-Ok.ensures.field.reads)
    (first_refuses (λ _. followed_by (field AreIds ids_bytes) (λ _. items_grammar)) c.in-Err-read_tables.ensures))

pub returns-in-Err-read_ids : goal.returns-in-Err-read_ids
unfolding host_grammar
returns-in-Err-read_ids c = seen_refuses host_sees
    (then_refuses (λ _. followed_by tables_grammar (λ _. followed_by (field AreIds ids_bytes) (λ _. items_grammar))) (field_finds c.in-Ok.ensures.field.reads)
    (then_refuses (λ _. followed_by (field AreIds ids_bytes) (λ _. items_grammar)) c.in-Ok-read_tables.ensures.finds
    (first_refuses (λ _. items_grammar) c.in-Err-read_ids.ensures)))

pub returns-in-Err-read_items : goal.returns-in-Err-read_items
unfolding host_grammar
returns-in-Err-read_items c = seen_refuses host_sees
    (then_refuses (λ _. followed_by tables_grammar (λ _. followed_by (field AreIds ids_bytes) (λ _. items_grammar))) (field_finds c.in-Ok.ensures.field.reads)
    (then_refuses (λ _. followed_by (field AreIds ids_bytes) (λ _. items_grammar)) c.in-Ok-read_tables.ensures.finds
    (then_refuses (λ _. items_grammar) c.in-Ok-read_ids.ensures.finds c.in-Err-read_items.ensures)))

pub returns-in-Ok-read_items : goal.returns-in-Ok-read_items
unfolding host_grammar
returns-in-Ok-read_items c = record {
  value = record { name = c.in-Ok.name.now; tables = c.in-Ok-read_tables.ensures.value; partial = c.in-Ok-read_ids.ensures.value; items = c.in-Ok-read_items.ensures.value };
  tells = record { name = refl; tables = c.in-Ok-read_tables.ensures.tells; partial = c.in-Ok-read_ids.ensures.tells; items = c.in-Ok-read_items.ensures.tells };
  finds = seen_finds host_sees
      (then_finds (λ _. followed_by tables_grammar (λ _. followed_by (field AreIds ids_bytes) (λ _. items_grammar))) (field_finds c.in-Ok.ensures.field.reads)
      (then_finds (λ _. followed_by (field AreIds ids_bytes) (λ _. items_grammar)) c.in-Ok-read_tables.ensures.finds
      (then_finds (λ _. items_grammar) c.in-Ok-read_ids.ensures.finds c.in-Ok-read_items.ensures.finds)));
}
