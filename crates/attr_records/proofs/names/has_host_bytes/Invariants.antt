use Rattle.std.proofs.Common.{◌≡◌, drop}
use Rattle.std.specs.List.{list_all}
use Rattle.attr_records.specs.Names.{is_host_byte}
use Rattle.attr_records.proofs.names.has_host_bytes.Given as goal

abbrev pub invariant-loop-byte : goal.invariant-loop-byte
invariant-loop-byte l = list_all is_host_byte (drop l.byte-index l.text) ≡ list_all is_host_byte l.text
