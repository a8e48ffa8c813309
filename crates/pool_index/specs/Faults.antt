-- What a fault of the index's files tells.
use Rattle.std.specs.Prelude.{ℕ, Option, Some, None}
use Rattle.pool_index.specs.declared.fault.IndexFault.{IndexFault}
use Rattle.pool_index.specs.declared.fault.IndexFault.TheVariants.{BadIndex, Memory}

-- the offset at which a file breaks its layout, None for want of memory
abbrev pub offset_of : IndexFault → Option ℕ
offset_of (BadIndex offset) = Some offset
offset_of Memory = None
