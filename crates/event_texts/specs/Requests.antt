-- The requests that ask for events: method and target, as a client writes them. None has a body.
--     request_of      the request of an event of a pull
use Rattle.std.specs.Prelude.{ℕ, List, ◌++◌, codes, decimal, Option, Some, None}
use Rattle.office_model.specs.declared.event.Event.{Event}
use Rattle.office_model.specs.declared.event.Event.TheVariants as E
use Rattle.receipts.specs.declared.session.SessionName.{SessionName}
use Rattle.receipts.specs.Session.{session_text}

pub record RequestTexts : Type 0 where
  pub method : List ℕ
  pub target : List ℕ

-- the backups of a host
abbrev pub backups_target : List ℕ → List ℕ
backups_target host = codes "/hosts/" ++ (host ++ codes "/backups")

-- the restores of a backup
abbrev pub restores_path : List ℕ → ℕ → List ℕ
restores_path host number = codes "/hosts/" ++ (host ++ (codes "/backups/" ++ (decimal number ++ codes "/restores")))

-- with a base, those of what leads from it to the backup
abbrev pub restores_target : List ℕ → ℕ → Option ℕ → List ℕ
restores_target host number None = restores_path host number
restores_target host number (Some base) = restores_path host number ++ (codes "?base=" ++ decimal base)

-- an open restore
abbrev pub restore_target : SessionName → List ℕ
restore_target restore = codes "/restores/" ++ session_text restore

-- its next bytes
abbrev pub next_target : SessionName → List ℕ
next_target restore = codes "/restores/" ++ (session_text restore ++ codes "/next")

-- the request that asks for an event
abbrev pub request_of : Event → Option RequestTexts
request_of (E.Backups host) = Some (record { method = codes "GET"; target = backups_target host })
request_of (E.OpenRead host number base) = Some (record { method = codes "POST"; target = restores_target host number base })
request_of (E.ReadNext restore) = Some (record { method = codes "GET"; target = next_target restore })
request_of (E.CloseRead restore) = Some (record { method = codes "DELETE"; target = restore_target restore })
request_of event = None
