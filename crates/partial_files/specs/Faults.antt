-- What a fault of the file of a partial dump tells.
use Rattle.std.specs.Prelude.{ℕ, Option, Some, None}
use Rattle.partial_files.specs.declared.fault.PartialFault.{PartialFault}
use Rattle.partial_files.specs.declared.fault.PartialFault.TheVariants.{BadPartial, Memory}

-- the offset at which a file breaks its layout, None for want of memory
abbrev pub offset_of : PartialFault → Option ℕ
offset_of (BadPartial offset) = Some offset
offset_of Memory = None
