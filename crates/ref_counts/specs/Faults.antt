-- What a fault of a counts file tells.
use Rattle.std.specs.Prelude.{ℕ, Option, Some, None}
use Rattle.ref_counts.specs.declared.fault.CountsFault.{CountsFault}
use Rattle.ref_counts.specs.declared.fault.CountsFault.TheVariants.{BadIndex, Memory}

-- the offset at which a file breaks its layout, None for want of memory
abbrev pub offset_of : CountsFault → Option ℕ
offset_of (BadIndex offset) = Some offset
offset_of Memory = None
