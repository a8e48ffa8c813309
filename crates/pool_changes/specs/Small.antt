-- A slot in fewer bytes.
use Rattle.std.specs.Prelude.{ℕ, if◌then◌else◌, ◌==◌}
use Rattle.pool_changes.specs.declared.slot.Slot.{Slot}
use Rattle.pool_changes.specs.declared.slot.Slot.TheVariants.{Live, Staged, Doomed}

-- 0 for doomed, 1 for staged, 2 for live, 3 for live and marked
abbrev pub slot_of : (kind size claims : ℕ) → Slot
slot_of kind size claims = if kind == 0 then Doomed else (if kind == 1 then Staged size claims else Live size (kind == 3) claims)
