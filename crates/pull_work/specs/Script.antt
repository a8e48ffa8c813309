-- Which step of a pull is due, and what follows it.
--     Phase      how far a pull is
--     due      what is called at home next, or asked of the other server
--     after      how far it is behind a step
use Rattle.std.specs.Prelude.{ℕ, ◌+◌, ◌==◌, Bool, true, false, if◌then◌else◌, List, [], ◌∷◌, Option, Some, None, Ok, Err}
use Rattle.tree_frames.specs.declared.nodes.Frame.{Frame}
use Rattle.receipts.specs.declared.session.SessionName.{SessionName}
use Rattle.backup_rules.specs.declared.lines.Kind.{Kind}
use Rattle.backup_rules.specs.declared.lines.Kind.TheVariants.{Full, Incr}
use Rattle.backup_rules.specs.declared.lines.Line.{Line}
use Rattle.office_model.specs.declared.event.Event.{Event}
use Rattle.office_model.specs.declared.event.Event.TheVariants as E
use Rattle.office_model.specs.declared.answer.Answer.TheVariants as A
use Rattle.office_model.specs.declared.refusal.Refusal.{Refusal}
use Rattle.office_model.specs.declared.refusal.Refusal.TheVariants.{Broken}
use Rattle.office_model.specs.declared.refusal.BrokenRule.TheVariants.{NoHost}
use Rattle.peer_exchange.specs.declared.fault.PeerFault.{PeerFault}
use Rattle.peer_exchange.specs.declared.fault.PeerFault.TheVariants as F
use Rattle.frame_puts.specs.declared.laying.Laying.{Laying}
use Rattle.frame_puts.specs.declared.laying.Laying.TheVariants.{Nothing, Ended}
use Rattle.pull_work.specs.declared.plan.Plan.{Plan}
use Rattle.pull_work.specs.declared.ends.PullEnd.{PullEnd}
use Rattle.pull_work.specs.declared.ends.PullEnd.TheVariants.{Refused, PeerRefused, PeerForeign, LinkFault, Memory}
use Rattle.pull_work.specs.Compared.{base_in, new_lines}
use Rattle.pull_work.specs.Steps.{Step, Home, Lists, Opens, Reads, Closes}

-- a backup that is brought: its line on the other server, the number of its base, if it has one, the lines behind it, and how many
-- were adopted before it
pub record Job : Type 0 where
  pub line : Line
  pub base : Option ℕ
  pub left : List Line
  pub done : ℕ

-- how much of it is in a dump at home: what is pending behind the frames that were read, and how many these were
pub record Intake : Type 0 where
  pub job : Job
  pub restore : SessionName
  pub dump : SessionName
  pub laying : Laying
  pub read : ℕ

pub data Phase : Type 0 where
  -- which backups are at home
  Asking : Phase
  -- the host isn't: it is added
  Adding : Phase
  AskingAgain : Phase
  -- which are there, behind those at home and from their next number on
  Comparing : (own : List Line) → (next : ℕ) → Phase
  -- these are to be brought; the newest at home has this number there, too, if it is there
  Bringing : (newest : Option ℕ) → (lines : List Line) → (done : ℕ) → Phase
  -- a restore is open there, and a dump is to be opened at home
  Opening : Job → (restore : SessionName) → Phase
  Reading : Intake → Phase
  -- a frame was read
  Taking : Intake → Frame → Phase
  -- the last one was
  Closing : Job → (restore : SessionName) → (dump : SessionName) → Phase
  Adopting : Job → (dump : SessionName) → Phase
  -- it ends so, and a dump is open
  Aborting : (dump : SessionName) → PullEnd → Phase
  Over : PullEnd → Phase

-- ---- what is due

pub data Due : Type 0 where
  Calls : Event → Due
  ListsThere : Due
  OpensThere : (number : ℕ) → (base : Option ℕ) → Due
  ReadsThere : (restore : SessionName) → Due
  ClosesThere : (restore : SessionName) → Due

abbrev pub due_in : Step → Due
due_in (Home call) = Calls call.0
due_in (Lists result) = ListsThere
due_in (Opens number base result) = OpensThere number base
due_in (Reads restore result) = ReadsThere restore
due_in (Closes restore result) = ClosesThere restore

-- from a base on it is incremental
abbrev pub kind_for : Option ℕ → Kind
kind_for None = Full
kind_for (Some base) = Incr

-- a dump for it is opened at the plan's moment, without a token
abbrev pub opening : Plan → Option ℕ → Event
opening plan base = E.OpenDump plan.host (kind_for base) plan.start None

abbrev pub adoption : SessionName → Line → Event
adoption dump line = E.Adopt dump line.number line.start line.end line.kind

-- no restore has as many frames
abbrev pub frame_limit : ℕ
frame_limit = 18446744073709551615

abbrev pub due : Plan → Phase → Option Due
due plan Asking = Some (Calls (E.Backups plan.host))
due plan Adding = Some (Calls (E.AddHost plan.host plan.rules))
due plan AskingAgain = Some (Calls (E.Backups plan.host))
due plan (Comparing own next) = Some ListsThere
due plan (Bringing newest [] done) = None
due plan (Bringing newest (line ∷ lines) done) = Some (OpensThere line.number newest)
due plan (Opening job restore) = Some (Calls (opening plan job.base))
due plan (Reading intake) = if intake.read == frame_limit then None else Some (ReadsThere intake.restore)
due plan (Taking intake frame) = None
due plan (Closing job restore dump) = Some (ClosesThere restore)
due plan (Adopting job dump) = Some (Calls (adoption dump job.line))
due plan (Aborting dump end) = Some (Calls (E.Abort dump))
due plan (Over end) = None

-- ---- what follows a step that was due, by the phase; no other step leads on

-- how a pull ends by a fault of the other server, or of the way to it
abbrev pub end_by : PeerFault → PullEnd
end_by (F.Refused status) = PeerRefused status
end_by F.Foreign = PeerForeign
end_by F.Link = LinkFault
end_by F.Memory = Memory

abbrev pub is_no_host : Refusal → Bool
is_no_host (Broken NoHost) = true
is_no_host refusal = false

abbrev pub after_asking : Step → Phase
after_asking (Home (asked, Ok (A.Backups lines next dump))) = Comparing lines next
after_asking (Home (asked, Err refusal)) = if is_no_host refusal then Adding else Over (Refused refusal)
after_asking step = Asking

abbrev pub after_adding : Step → Phase
after_adding (Home (asked, Ok answer)) = AskingAgain
after_adding (Home (asked, Err refusal)) = Over (Refused refusal)
after_adding step = Adding

abbrev pub after_asking_again : Step → Phase
after_asking_again (Home (asked, Ok (A.Backups lines next dump))) = Comparing lines next
after_asking_again (Home (asked, Err refusal)) = Over (Refused refusal)
after_asking_again step = AskingAgain

abbrev pub after_comparing : (own : List Line) → (next : ℕ) → Step → Phase
after_comparing own next (Lists (Ok there)) = Bringing (base_in own there.lines) (new_lines next there.lines) 0
after_comparing own next (Lists (Err fault)) = Over (end_by fault)
after_comparing own next step = Comparing own next

abbrev pub job_of : Option ℕ → Line → List Line → ℕ → Job
job_of base line left done = record { line = line; base = base; left = left; done = done }

abbrev pub after_bringing : (newest : Option ℕ) → (line : Line) → (left : List Line) → (done : ℕ) → Step → Phase
after_bringing newest line left done (Opens number base (Ok restore)) = Opening (job_of newest line left done) restore
after_bringing newest line left done (Opens number base (Err fault)) = Over (end_by fault)
after_bringing newest line left done step = Bringing newest (line ∷ left) done

abbrev pub intake_of : Job → (restore : SessionName) → (dump : SessionName) → Laying → (read : ℕ) → Intake
intake_of job restore dump laying read = record { job = job; restore = restore; dump = dump; laying = laying; read = read }

-- an opening without a token is never answered with Already; the answers' type has it
abbrev pub after_opening : Job → (restore : SessionName) → Step → Phase
after_opening job restore (Home (asked, Ok (A.Dump dump))) = Reading (intake_of job restore dump Nothing 0)
after_opening job restore (Home (asked, Ok (A.Already number))) = Over Memory
after_opening job restore (Home (asked, Err refusal)) = Over (Refused refusal)
after_opening job restore step = Opening job restore

abbrev pub after_reading : Intake → Step → Phase
after_reading intake (Reads restore (Ok frame)) = Taking intake frame
after_reading intake (Reads restore (Err fault)) = Aborting intake.dump (end_by fault)
after_reading intake step = Reading intake

abbrev pub after_closing : Job → (restore : SessionName) → (dump : SessionName) → Step → Phase
after_closing job restore dump (Closes closed (Ok done)) = Adopting job dump
after_closing job restore dump (Closes closed (Err fault)) = Aborting dump (end_by fault)
after_closing job restore dump step = Closing job restore dump

-- the backup that was adopted is the newest
abbrev pub after_adopting : Job → (dump : SessionName) → Step → Phase
after_adopting job dump (Home (asked, Ok answer)) = Bringing (Some job.line.number) job.left (job.done + 1)
after_adopting job dump (Home (asked, Err refusal)) = Aborting dump (Refused refusal)
after_adopting job dump step = Adopting job dump

-- whatever the abort is answered with
abbrev pub after_aborting : (dump : SessionName) → PullEnd → Step → Phase
after_aborting dump end (Home call) = Over end
after_aborting dump end step = Aborting dump end

abbrev pub after : Phase → Step → Phase
after Asking step = after_asking step
after Adding step = after_adding step
after AskingAgain step = after_asking_again step
after (Comparing own next) step = after_comparing own next step
after (Bringing newest [] done) step = Bringing newest [] done
after (Bringing newest (line ∷ lines) done) step = after_bringing newest line lines done step
after (Opening job restore) step = after_opening job restore step
after (Reading intake) step = after_reading intake step
after (Taking intake frame) step = Taking intake frame
after (Closing job restore dump) step = after_closing job restore dump step
after (Adopting job dump) step = after_adopting job dump step
after (Aborting dump end) step = after_aborting dump end step
after (Over end) step = Over end

-- behind a frame that was laid: the last one closes the restore
abbrev pub taken : Intake → Laying → Phase
taken intake Ended = Closing intake.job intake.restore intake.dump
taken intake laying = Reading (record intake { laying = laying; read = intake.read + 1 })

-- where it ends behind a phase by itself
abbrev pub stopped : Phase → PullEnd → Phase
stopped (Reading intake) end = Aborting intake.dump end
stopped (Taking intake frame) end = Aborting intake.dump end
stopped (Closing job restore dump) end = Aborting dump end
stopped (Adopting job dump) end = Aborting dump end
stopped (Aborting dump end) other = Aborting dump end
stopped phase end = Over end
