-- A further item, and where there is none.
use Rattle.std.proofs.Common.{ℕ, ◌+◌, List, sym, subst}
use Rattle.wire_bytes.specs.Grammar.{field}
use Rattle.wire_bytes.specs.GrammarReading.{Finds, Refuses}
use Rattle.wire_bytes.specs.ItemLaws.{ItemsRead, items_read_more, items_refuse, items_find}
use Rattle.pool_index.specs.declared.item.IndexItem.{IndexItem}
use Rattle.pool_index.specs.Faults.{offset_of}
use Rattle.pool_index.specs.Items.{IsNextItem}
use Rattle.pool_index.specs.Layout.{item_bytes}
use Rattle.pool_index.proofs.reading.read_items.Goals as goal

pub returns-in-Err : goal.returns-in-Err
returns-in-Err c =
    items_refuse c.loop-i-test.true c.loop-i.invariant
    (subst (λ (before : List IndexItem). Refuses offset_of (field (IsNextItem c.args.byte before) item_bytes) c.loop-i.reader c.in-Err.fault) c.as_slice.ensures.value c.in-Err.ensures)

pub loop-i-preserved : goal.loop-i-preserved
loop-i-preserved c =
    let found = subst (λ (before : List IndexItem). Finds (field (IsNextItem c.args.byte before) item_bytes) c.loop-i.reader c.in-Ok.item c.read_next.new.reader) c.as_slice.ensures.value c.in-Ok.ensures in
    subst (λ (items : List IndexItem). ItemsRead (IsNextItem c.args.byte) item_bytes c.args.reader.now c.read_next.new.reader items (c.loop-i._i + 1) c.args.count) (sym c.in_ok-push.ensures.items)
    (items_read_more c.loop-i-test.true c.loop-i.invariant found)

pub returns : goal.returns
returns c = items_find c.loop-i-test.false c.loop-i.auto._i-end c.loop-i.invariant
