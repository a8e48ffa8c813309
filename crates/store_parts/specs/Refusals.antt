-- What faults of a store's parts are to its callers.
--     refusal_of_view, refusal_of_pool      the refusal that a fault is
--     IsReadFault parts refusal      why backups aren't read: a fault of the disk, want of memory, or files that can't be there
use Rattle.std.specs.Prelude.{⊤}
use Rattle.disk_trait.specs.declared.ids.FileId.TheVariants.{Pool as PoolFile}
use Rattle.disk_trait.specs.declared.disk.Disk.{Ghosts as DiskGhosts}
use Rattle.pool_name.specs.declared.namer.Namer.{Ghosts as NamerGhosts}
use Rattle.pool_store.specs.declared.fault.PoolFault.{PoolFault}
use Rattle.pool_store.specs.declared.fault.PoolFault.TheVariants as P
use Rattle.backup_views.specs.declared.fault.ViewFault.{ViewFault}
use Rattle.backup_views.specs.declared.fault.ViewFault.TheVariants as V
use Rattle.office_model.specs.declared.refusal.BrokenRule.TheVariants.{ChainFull}
use Rattle.office_model.specs.declared.refusal.Refusal.{Refusal}
use Rattle.office_model.specs.declared.refusal.Refusal.TheVariants as R
use Rattle.office_model.specs.Office.{Office, Names}
use Rattle.store_parts.specs.declared.parts.StoreParts.{StoreParts}
use Rattle.store_parts.specs.States.{IsRunning}

abbrev pub refusal_of_view : ViewFault → Refusal
refusal_of_view V.Disk = R.DiskFault
refusal_of_view V.Memory = R.Memory
refusal_of_view (V.Damaged file found) = R.Damaged file found

abbrev pub refusal_of_pool : PoolFault → Refusal
refusal_of_pool (P.Foreign file found) = R.Damaged file found
refusal_of_pool P.Disk = R.DiskFault
refusal_of_pool P.Memory = R.Memory
refusal_of_pool (P.Damaged id found) = R.Damaged (PoolFile id) found
refusal_of_pool P.ChainFull = R.Broken ChainFull

-- no file that is read can be damaged while the parts are at work
abbrev pub IsReadFault : {D N S : Type 0} {d : DiskGhosts D} {n : NamerGhosts N S} → StoreParts D N S d n → Refusal → Type 0
IsReadFault parts (R.Damaged file found) = (office : Office) (names : Names) → IsRunning parts office names → ⊥
IsReadFault parts R.DiskFault = ⊤
IsReadFault parts R.Memory = ⊤
IsReadFault parts refusal = ⊥
