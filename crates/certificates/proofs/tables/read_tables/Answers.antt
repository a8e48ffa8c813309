-- A further one, where there is none, and all of them.
use Rattle.std.proofs.Common.{◌≡◌, [], ◌∷◌, ◌++◌, length, Some, refl, ap, sym, subst, ◌∙◌, arith}
use Rattle.wire_bytes.specs.Reading.{Reading, Passes}
use Rattle.wire_bytes.specs.Breaks.{items_bytes}
use Rattle.wire_bytes.specs.Grammar.{items_of}
use Rattle.wire_bytes.specs.GrammarLaws.{field_finds, field_refuses, then_finds, then_refuses, first_refuses, seen_finds, seen_refuses}
use Rattle.wire_bytes.specs.ItemLaws.{items_read_none, items_read_more, items_refuse, items_find}
use Rattle.certificates.specs.Layout.{IsNextTable, table_grammar}
use Rattle.certificates.proofs.Next.{last_key-snoc}
use Rattle.certificates.proofs.tables.read_tables.Goals as goal

pub returns-in-Err : goal.returns-in-Err
returns-in-Err c = seen_refuses _ (first_refuses (items_of IsNextTable table_grammar.print) (field_refuses c.in-Err.ensures.field.reads c.in-Err.ensures.here))

pub loop-i-init : goal.loop-i-init
loop-i-init c = record { items = []; last = refl; read = items_read_none }

pub returns-in-Err-read_next_table : goal.returns-in-Err-read_next_table
returns-in-Err-read_next_table c = seen_refuses _ (then_refuses (items_of IsNextTable table_grammar.print) (field_finds c.in-Ok.ensures.field.reads)
    (items_refuse c.loop-i-test.true c.loop-i.invariant.read (c.in-Err-read_next_table.ensures _ c.loop-i.invariant.last)))

pub loop-i-preserved : goal.loop-i-preserved
loop-i-preserved c = record {
  items = c.loop-i.invariant.items ++ (c.in-Ok-read_next_table.ensures _ c.loop-i.invariant.last).value ∷ [];
  last = ap Some ((c.in-Ok-read_next_table.ensures _ c.loop-i.invariant.last).tells.number) ∙ sym (last_key-snoc (λ t. t.number) c.loop-i.invariant.items (c.in-Ok-read_next_table.ensures _ c.loop-i.invariant.last).value);
  read = items_read_more c.loop-i-test.true c.loop-i.invariant.read (c.in-Ok-read_next_table.ensures _ c.loop-i.invariant.last).finds;
}

pub returns : goal.returns
returns c =
    let read = c.loop-i.invariant.read in
    let bytes : c.passed-bytes.result.now ≡ items_bytes table_grammar.print c.loop-i.invariant.items =
    c.passed-bytes.ensures (items_bytes table_grammar.print c.loop-i.invariant.items)
    (subst (λ (r : Reading). Passes r c.loop-i.reader (items_bytes table_grammar.print c.loop-i.invariant.items)) (sym c.copy-start.ensures) read.passed) in
    let some : length c.loop-i.invariant.items ≡ c.loop-i._i = read.some in
    let count : c.in-Ok.count ≡ length c.loop-i.invariant.items = omega (arith, some, c.loop-i-test.false, c.loop-i.auto._i-end) in
    record {
      value = c.loop-i.invariant.items;
      tells = record { count = count; bytes = bytes };
      finds = seen_finds _ (then_finds (items_of IsNextTable table_grammar.print) (field_finds c.in-Ok.ensures.field.reads) (items_find c.loop-i-test.false c.loop-i.auto._i-end read));
    }
