-- What a fault tells of the bytes that were read.
use Rattle.std.specs.Prelude.{ℕ, Option, Some, None}
use Rattle.backup_index.specs.declared.fault.IndexFault.{IndexFault}
use Rattle.backup_index.specs.declared.fault.IndexFault.TheVariants.{BadIndex, Memory}

-- the offset that it tells
abbrev pub offset_of : IndexFault → Option ℕ
offset_of (BadIndex offset) = Some offset
offset_of Memory = None
