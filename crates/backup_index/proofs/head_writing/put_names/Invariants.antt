use Rattle.std.proofs.Common.{◌≡◌, ◌++◌, take}
use Rattle.std.specs.List.{AllByRecursion}
use Rattle.backup_index.specs.Names.{IsHostName}
use Rattle.std.specs.Int.{w8}
use Rattle.wire_bytes.specs.Layout.{text_bytes}
use Rattle.wire_bytes.specs.Breaks.{items_bytes}
use Rattle.backup_index.proofs.head_writing.put_names.Given as goal

abbrev pub invariant-loop-name : goal.invariant-loop-name
invariant-loop-name l = record {
  written : l.out.items ≡ l.initial.out.items ++ items_bytes (text_bytes w8) (take l.name-index l.names);
  fits : AllByRecursion IsHostName (take l.name-index l.names);
}
