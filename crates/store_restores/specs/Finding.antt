-- Where memory finds a restore.
--     place_of restores name      the index of the restore of this name
--     IsRestoreHere restores name      there is one
--     HasRestore old name reply      an answer, and a damaged file, are said only of one that is there
use Rattle.std.specs.Prelude.{⊤, ◌≡◌, ℕ, List, Option, Some, Ok, Err, slice_get}
use Rattle.std.specs.List.{position_from}
use Rattle.disk_trait.specs.declared.disk.Disk.{Ghosts as DiskGhosts}
use Rattle.pool_name.specs.declared.namer.Namer.{Ghosts as NamerGhosts}
use Rattle.open_sessions.specs.declared.sessions.OpenRestore.{OpenRestore}
use Rattle.office_model.specs.declared.refusal.Refusal.TheVariants as R
use Rattle.receipts.specs.declared.session.SessionName.{SessionName}
use Rattle.office_model.specs.Meaning.{Reply}
use Rattle.receipts.specs.Session.{is_same_session}
use Rattle.store_parts.specs.declared.parts.StoreParts.{StoreParts}

-- the index of the restore of this name
abbrev pub place_of : {S : Type 0} → List (OpenRestore S) → SessionName → Option ℕ
place_of restores name = position_from (λ restore. is_same_session restore.name name) 0 restores

-- there is one
pub record IsRestoreHere {S : Type 0} (restores : List (OpenRestore S)) (name : SessionName) : Type 0 where
  pub place : ℕ
  pub session : OpenRestore S
  pub named : Some place ≡ place_of restores name
  pub here : slice_get restores place ≡ Some session

abbrev pub HasRestore : {D N S : Type 0} {d : DiskGhosts D} {n : NamerGhosts N S} → StoreParts D N S d n → SessionName → Reply → Type 0
HasRestore old name (Ok answer) = IsRestoreHere old.sessions.restores.items name
HasRestore old name (Err (R.Damaged file found)) = IsRestoreHere old.sessions.restores.items name
HasRestore old name (Err refusal) = ⊤
