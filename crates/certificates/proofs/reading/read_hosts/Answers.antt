-- A further one, where there is none, and all of them.
use Rattle.std.proofs.Common.{◌≡◌, [], ◌∷◌, ◌++◌, length, sym, subst, arith}
use Rattle.wire_bytes.specs.Reading.{Reading, Passes}
use Rattle.wire_bytes.specs.Breaks.{items_bytes}
use Rattle.wire_bytes.specs.Grammar.{items_of}
use Rattle.wire_bytes.specs.GrammarLaws.{field_finds, field_refuses, then_finds, then_refuses, first_refuses, seen_finds, seen_refuses}
use Rattle.wire_bytes.specs.ItemLaws.{items_read_none, items_read_more, items_refuse, items_find}
use Rattle.certificates.specs.Layout.{host_grammar}
use Rattle.certificates.proofs.reading.read_hosts.Goals as goal

pub returns-in-Err : goal.returns-in-Err
returns-in-Err c = seen_refuses _ (first_refuses (items_of (λ _. host_grammar.Fits) host_grammar.print) (field_refuses c.in-Err.ensures.field.reads c.in-Err.ensures.here))

pub loop-i-init : goal.loop-i-init
loop-i-init c = record { items = []; read = items_read_none }

pub returns-in-Err-read_host : goal.returns-in-Err-read_host
returns-in-Err-read_host c = seen_refuses _ (then_refuses (items_of (λ _. host_grammar.Fits) host_grammar.print) (field_finds c.in-Ok.ensures.field.reads)
    (items_refuse c.loop-i-test.true c.loop-i.invariant.read (c.in-Err-read_host.ensures)))

pub loop-i-preserved : goal.loop-i-preserved
loop-i-preserved c = record {
  items = c.loop-i.invariant.items ++ c.in-Ok-read_host.ensures.value ∷ [];
  read = items_read_more c.loop-i-test.true c.loop-i.invariant.read c.in-Ok-read_host.ensures.finds;
}

pub returns : goal.returns
returns c =
    let read = c.loop-i.invariant.read in
    let bytes : c.passed-bytes.result.now ≡ items_bytes host_grammar.print c.loop-i.invariant.items =
    c.passed-bytes.ensures (items_bytes host_grammar.print c.loop-i.invariant.items)
    (subst (λ (r : Reading). Passes r c.loop-i.reader (items_bytes host_grammar.print c.loop-i.invariant.items)) (sym c.copy-start.ensures) read.passed) in
    let some : length c.loop-i.invariant.items ≡ c.loop-i._i = read.some in
    let count : c.from.result ≡ length c.loop-i.invariant.items = omega (arith, some, c.loop-i-test.false, c.loop-i.auto._i-end, c.from.ensures) in
    record {
      value = c.loop-i.invariant.items;
      tells = record { count = count; bytes = bytes };
      finds = seen_finds _ (then_finds (items_of (λ _. host_grammar.Fits) host_grammar.print) (field_finds c.in-Ok.ensures.field.reads) (items_find c.loop-i-test.false c.loop-i.auto._i-end read));
    }
