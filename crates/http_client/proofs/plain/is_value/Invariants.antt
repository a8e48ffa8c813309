use Rattle.std.proofs.Common.{◌≡◌, drop}
use Rattle.std.specs.List.{list_all}
use Rattle.httparse.specs.Grammar.{is_value_byte}
use Rattle.http_client.proofs.plain.is_value.Given as goal

abbrev pub invariant-loop-byte : goal.invariant-loop-byte
invariant-loop-byte l = list_all is_value_byte (drop l.byte-index l.bytes) ≡ list_all is_value_byte l.bytes
