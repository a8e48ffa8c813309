use Rattle.std.proofs.Common.{◌≡◌, ◌++◌, take}
use Rattle.std.specs.List.{AllByRecursion}
use Rattle.wire_bytes.specs.Breaks.{items_bytes}
use Rattle.backup_rules.specs.Layout.{line_bytes, IsLine}
use Rattle.backup_index.proofs.index_writing.put_lines.Given as goal

abbrev pub invariant-loop-line : goal.invariant-loop-line
invariant-loop-line l = record {
  written : l.out.items ≡ l.initial.out.items ++ items_bytes line_bytes (take l.line-index l.lines);
  fits : AllByRecursion IsLine (take l.line-index l.lines);
}
