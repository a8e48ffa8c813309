-- How a push ends, and what is said of it.
--     end_of      the end of a dump over a port
--     text_of, status_of      the line of it, and the program's status
use Rattle.std.specs.Prelude.{ℕ, List, ◌++◌, codes, decimal, Option, Some, None, Result, Ok, Err}
use Rattle.office_model.specs.declared.refusal.Refusal.{Refusal}
use Rattle.office_model.specs.declared.refusal.Refusal.TheVariants as R
use Rattle.office_model.specs.RuleNames.{refusal_name}
use Rattle.folder_walk.specs.declared.refusals.DumpRefusal.{DumpRefusal}
use Rattle.folder_walk.specs.declared.refusals.DumpRefusal.TheVariants as D
use Rattle.remote_port.specs.declared.end.PortEnd.{PortEnd}
use Rattle.remote_port.specs.declared.end.PortEnd.TheVariants as P
use Rattle.push_work.specs.declared.ends.PushEnd.{PushEnd}
use Rattle.push_work.specs.declared.ends.PushEnd.TheVariants as E

-- by the end of the port
abbrev pub ended_by : PortEnd → PushEnd
ended_by P.Foreign = E.PeerForeign
ended_by (P.Silent status) = E.PeerRefused status
ended_by P.Link = E.LinkFault
ended_by P.Memory = E.Memory

-- by a call's refusal: want of memory is what the port answers from its own end on
abbrev pub end_by_refusal : Refusal → Option PortEnd → PushEnd
end_by_refusal R.Memory (Some end) = ended_by end
end_by_refusal R.Memory None = E.Memory
end_by_refusal (R.Broken rule) port = E.Refused (R.Broken rule)
end_by_refusal R.Halted port = E.Refused R.Halted
end_by_refusal R.DiskFault port = E.Refused R.DiskFault
end_by_refusal (R.Damaged file found) port = E.Refused (R.Damaged file found)

-- what a dump of a host's backup over a port came to, which ended so, if it did
abbrev pub end_of : (host : List ℕ) → Result ℕ DumpRefusal → Option PortEnd → PushEnd
end_of host (Ok number) port = E.Pushed host number
end_of host (Err (D.Refused refusal)) port = end_by_refusal refusal port
end_of host (Err (D.BadPath rule)) port = E.BadPath rule
end_of host (Err D.BadTarget) port = E.BadTarget
end_of host (Err D.FileTooLarge) port = E.FileTooLarge
end_of host (Err D.Folder) port = E.Folder
end_of host (Err D.Memory) port = E.Memory

-- the line of it
abbrev pub text_of : PushEnd → List ℕ
text_of (E.Pushed host number) = codes "pushed " ++ host ++ codes " " ++ decimal number
text_of (E.Refused refusal) = codes "refused " ++ refusal_name refusal
text_of (E.PeerRefused status) = codes "peer refused " ++ decimal status
text_of E.PeerForeign = codes "peer foreign"
text_of (E.BadPath rule) = codes "refused BadPath"
text_of E.BadTarget = codes "refused BadTarget"
text_of E.FileTooLarge = codes "refused FileTooLarge"
text_of E.LinkFault = codes "link failed"
text_of E.Folder = codes "folder failed"
text_of E.Memory = codes "no memory"

-- the program's status
abbrev pub status_of : PushEnd → ℕ
status_of (E.Pushed host number) = 0
status_of (E.Refused refusal) = 1
status_of (E.PeerRefused status) = 1
status_of E.PeerForeign = 1
status_of (E.BadPath rule) = 1
status_of E.BadTarget = 1
status_of E.FileTooLarge = 1
status_of E.LinkFault = 3
status_of E.Folder = 3
status_of E.Memory = 6
