use Rattle.std.specs.Int.{w8}
use Rattle.wire_bytes.specs.Layout.{text_bytes}
use Rattle.wire_bytes.specs.ItemLaws.{ItemsRead}
use Rattle.backup_index.specs.Names.{IsFreshName}
use Rattle.backup_index.proofs.head_reading.read_names.Given as goal

abbrev pub invariant-loop-i : goal.invariant-loop-i
invariant-loop-i l = ItemsRead IsFreshName (text_bytes w8) l.fn.reader l.reader l.names l._i l.count
