-- How far a pull is behind each of its parts, by what that part gave.
use Rattle.std.specs.Prelude.{◌≡◌, ℕ, ◌+◌, Bool, true, false, List, [], ◌∷◌, Option, Some, Result, Ok, Err}
use Rattle.receipts.specs.declared.session.SessionName.{SessionName}
use Rattle.office_model.specs.declared.event.Event.{Event}
use Rattle.office_model.specs.declared.event.Event.TheVariants as E
use Rattle.office_model.specs.declared.answer.Answer.TheVariants as A
use Rattle.office_model.specs.Step.{Call}
use Rattle.frame_puts.specs.declared.faults.LayFault.{LayFault}
use Rattle.frame_puts.specs.declared.faults.LayFault.TheVariants as L
use Rattle.frame_puts.specs.declared.laying.Laying.{Laying}
use Rattle.frame_puts.specs.declared.laying.Laying.TheVariants.{Nothing, Ended}
use Rattle.pull_work.specs.declared.calls.Own.{Own}
use Rattle.pull_work.specs.declared.calls.HomeFault.{HomeFault}
use Rattle.pull_work.specs.declared.calls.HomeFault.TheVariants as H
use Rattle.pull_work.specs.declared.ends.PullEnd.{PullEnd}
use Rattle.pull_work.specs.declared.ends.PullEnd.TheVariants.{Refused, PeerForeign, Memory}
use Rattle.pull_work.specs.Script.{Job, Phase, Comparing, Bringing, Reading, Aborting, Over, intake_of}

-- ---- faults as ends

abbrev pub home_end : HomeFault → PullEnd
home_end (H.Refused refusal) = Refused refusal
home_end H.Memory = Memory

abbrev pub lay_end : LayFault → PullEnd
lay_end (L.Refused refusal) = Refused refusal
lay_end L.Foreign = PeerForeign

-- ---- a call at home

-- the host's backups were asked for, and are these
abbrev pub IsListed : {P : Type 0} → (P → List Call → P → Type 0) → P → P → (host : List ℕ) → Own → Type 0
IsListed moves old new host own =
    (dump : Option SessionName) × moves old ((E.Backups host, Ok (A.Backups own.lines own.next dump)) ∷ []) new

-- an event was refused, or for want of memory not called
abbrev pub IsUncalled : {P : Type 0} → (P → List Call → P → Type 0) → P → P → Event → HomeFault → Type 0
IsUncalled moves old new event (H.Refused refusal) = moves old ((event, Err refusal) ∷ []) new
IsUncalled moves old new event H.Memory = new ≡ old

-- ---- the phases behind the parts

abbrev pub own_phase : Result Own PullEnd → Phase
own_phase (Ok own) = Comparing own.lines own.next
own_phase (Err end) = Over end

abbrev pub opened_phase : Job → (restore : SessionName) → Result SessionName PullEnd → Phase
opened_phase job restore (Ok dump) = Reading (intake_of job restore dump Nothing 0)
opened_phase job restore (Err end) = Over end

-- this one, or an open dump is to be aborted
abbrev pub or_aborting : (dump : SessionName) → Phase → Result (Unit {0}) PullEnd → Phase
or_aborting dump phase (Ok done) = phase
or_aborting dump phase (Err end) = Aborting dump end

-- this one, or it is over
abbrev pub or_over : Phase → Result (Unit {0}) PullEnd → Phase
or_over phase (Ok done) = phase
or_over phase (Err end) = Over end

-- the backup of a job was adopted
abbrev pub brought : Job → Phase
brought job = Bringing (Some job.line.number) job.left (job.done + 1)

abbrev pub is_ended : Laying → Bool
is_ended Ended = true
is_ended laying = false
