use Rattle.std.proofs.Common.{◌≡◌, ◌++◌, take}
use Rattle.wire_bytes.specs.Breaks.{items_bytes}
use Rattle.certificates.specs.Layout.{one_id_bytes}
use Rattle.certificates.proofs.writing.put_each.Given as goal

abbrev pub invariant-loop-id : goal.invariant-loop-id
invariant-loop-id l = l.out.items ≡ l.initial.out.items ++ items_bytes one_id_bytes (take l.id-index l.ids)
