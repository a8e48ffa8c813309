-- A further item, and where there is none.
use Rattle.std.proofs.Common.{◌+◌, sym, subst}
use Rattle.wire_bytes.specs.Grammar.{field}
use Rattle.wire_bytes.specs.GrammarLaws.{refused_again}
use Rattle.wire_bytes.specs.GrammarReading.{Finds, Refuses}
use Rattle.wire_bytes.specs.ItemLaws.{ItemsRead, items_read_more, items_refuse, items_find}
use Rattle.ref_counts.specs.Faults.{offset_of}
use Rattle.ref_counts.specs.Numbers.{Items}
use Rattle.ref_counts.specs.Layout.{item_bytes, IsNext}
use Rattle.ref_counts.proofs.reading.read_items.Goals as goal

pub returns-in_err-item : goal.returns-in_err-item
returns-in_err-item c =
    refused_again _ _ _ c.from_residual.ensures.1
    (items_refuse c.loop-i-test.true c.loop-i.invariant
    (subst (λ (before : Items). Refuses offset_of (field (IsNext before) item_bytes) c.loop-i.reader c.in_err-item.field-0.0) c.as_slice.ensures.value c.in_err-item.ensures))

pub loop-i-preserved : goal.loop-i-preserved
loop-i-preserved c =
    let found = subst (λ (before : Items). Finds (field (IsNext before) item_bytes) c.loop-i.reader c.in_ok-item.item c.read_next.new.reader) c.as_slice.ensures.value c.in_ok-item.ensures in
    subst (λ (items : Items). ItemsRead IsNext item_bytes c.args.reader.now c.read_next.new.reader items (c.loop-i._i + 1) c.args.count) (sym c.in_ok-push.ensures.items)
    (items_read_more c.loop-i-test.true c.loop-i.invariant found)

pub returns : goal.returns
returns c = items_find c.loop-i-test.false c.loop-i.auto._i-end c.loop-i.invariant
