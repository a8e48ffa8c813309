-- The program's exit statuses.
use Rattle.std.specs.Prelude.{ℕ}
use Rattle.admin_cli.specs.declared.note.Note.{Note}
use Rattle.admin_cli.specs.declared.note.Note.TheVariants.{Nothing, Pulled, InputEnded, NotUnderstood, ResponseCut, Refused, BadPath, BadTarget, FileTooLarge, FolderNotEmpty, StoreNotEmpty, PeerRefused, PeerForeign, Usage, LinkFailed, DoorFailed, FolderFailed, DiskFailed, Foreign, EpochsSpent, NoMemory, BadSettings}

-- the status of a run, by what it says as it ends
abbrev pub status_of : Note → ℕ
status_of Nothing = 0
status_of (Pulled host count) = 0
status_of InputEnded = 1
status_of NotUnderstood = 1
status_of ResponseCut = 1
status_of (Refused rule) = 1
status_of BadPath = 1
status_of BadTarget = 1
status_of FileTooLarge = 1
status_of FolderNotEmpty = 1
status_of StoreNotEmpty = 1
status_of (PeerRefused status) = 1
status_of PeerForeign = 1
status_of Usage = 2
status_of LinkFailed = 3
status_of DoorFailed = 3
status_of FolderFailed = 3
status_of DiskFailed = 4
status_of (Foreign file) = 5
status_of EpochsSpent = 5
status_of NoMemory = 6
status_of (BadSettings fault) = 7
