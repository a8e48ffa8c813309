-- What standard error gets as the program ends.
--     text_of note      the line, but of the usage and of settings that are refused
use Rattle.std.specs.Prelude.{ℕ, List, [], ◌++◌, codes, decimal, Option, Some, None}
use Rattle.disk_trait.specs.Names.{real_name}
use Rattle.office_model.specs.RuleNames.{rule_name}
use Rattle.admin_cli.specs.declared.note.Note.{Note}
use Rattle.admin_cli.specs.declared.note.Note.TheVariants.{Nothing, Pulled, InputEnded, NotUnderstood, ResponseCut, Refused, BadPath, BadTarget, FileTooLarge, FolderNotEmpty, StoreNotEmpty, PeerRefused, PeerForeign, Usage, LinkFailed, DoorFailed, FolderFailed, DiskFailed, Foreign, EpochsSpent, NoMemory, BadSettings}

abbrev pub text_of : Note → Option (List ℕ)
text_of Nothing = Some []
text_of (Pulled host count) = Some (codes "pulled " ++ host ++ codes " " ++ decimal count)
text_of InputEnded = Some (codes "input ended inside a request")
text_of NotUnderstood = Some (codes "request not understood")
text_of ResponseCut = Some (codes "response cut")
text_of (Refused rule) = Some (codes "refused " ++ rule_name rule)
text_of BadPath = Some (codes "refused BadPath")
text_of BadTarget = Some (codes "refused BadTarget")
text_of FileTooLarge = Some (codes "refused FileTooLarge")
text_of FolderNotEmpty = Some (codes "folder not empty")
text_of StoreNotEmpty = Some (codes "store not empty")
text_of (PeerRefused status) = Some (codes "peer refused " ++ decimal status)
text_of PeerForeign = Some (codes "peer foreign")
text_of Usage = None
text_of LinkFailed = Some (codes "link failed")
text_of DoorFailed = Some (codes "door failed")
text_of FolderFailed = Some (codes "folder failed")
text_of DiskFailed = Some (codes "disk failed")
text_of (Foreign file) = Some (codes "foreign " ++ real_name file)
text_of EpochsSpent = Some (codes "epochs spent")
text_of NoMemory = Some (codes "no memory")
text_of (BadSettings fault) = None
