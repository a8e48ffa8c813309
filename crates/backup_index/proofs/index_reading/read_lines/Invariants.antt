use Rattle.std.proofs.Common.{◌≡◌}
use Rattle.wire_bytes.specs.ItemLaws.{ItemsRead}
use Rattle.backup_rules.specs.Layout.{line_bytes}
use Rattle.backup_index.specs.Lines.{free_number, LineFits}
use Rattle.backup_index.proofs.index_reading.read_lines.Given as goal

abbrev pub invariant-loop-i : goal.invariant-loop-i
invariant-loop-i l = record {
  read : ItemsRead (LineFits l.next l.count) line_bytes l.fn.reader l.reader l.lines l.i l.count;
  low : l.low ≡ free_number l.lines;
}
