-- The number, and then the items.
use Rattle.wire_bytes.specs.Grammar.{items_of}
use Rattle.wire_bytes.specs.GrammarLaws.{then_finds, then_refuses, first_refuses, seen_finds, seen_refuses}
use Rattle.pool_index.specs.Items.{IsNextItem}
use Rattle.pool_index.specs.Layout.{item_bytes}
use Rattle.pool_index.proofs.file.read_counted.Goals as goal

pub returns-in-Err : goal.returns-in-Err
returns-in-Err c = seen_refuses _ (first_refuses (items_of (IsNextItem c.args.byte) item_bytes) c.in-Err.ensures)

pub returns-in-Err-read_items : goal.returns-in-Err-read_items
returns-in-Err-read_items c = seen_refuses _ (then_refuses (items_of (IsNextItem c.args.byte) item_bytes) c.in-Ok.ensures c.in-Err-read_items.ensures)

pub returns-in-Ok-read_items : goal.returns-in-Ok-read_items
returns-in-Ok-read_items c = seen_finds _ (then_finds (items_of (IsNextItem c.args.byte) item_bytes) c.in-Ok.ensures c.in-Ok-read_items.ensures)
