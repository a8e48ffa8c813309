-- A host's partial stays until a dump of the host is committed or parked, or the partial is dropped; and it is what was parked, and what
-- a resumed dump begins with.
use Rattle.std.specs.Prelude.{◌≡◌, ℕ, List, [], ◌∷◌, ◌++◌, Some, Ok, slice_get}
use Rattle.receipts.specs.declared.session.SessionName.{SessionName}
use Rattle.office_model.specs.declared.event.Event.{Event}
use Rattle.office_model.specs.declared.event.Event.TheVariants.{Commit, Adopt, Park, DropPartial}
use Rattle.office_model.specs.Office.{Office, Host, Dump, Names, Partial}
use Rattle.office_model.specs.Meaning.{Carried}
use Rattle.office_model.specs.Parts.{At, dump_at, backup_of}
use Rattle.office_model.specs.History.{Entry, IsHistory, last_state}
use Rattle.office_model.specs.Step.{State, Running, Halted, IsSoundState}
use Rattle.office_model.specs.UsedNames.{AreSound}
use Rattle.office_model.specs.events.OpenDump.{new_dump, next_session}
use Rattle.office_model.specs.events.Park as ParkEvent
use Rattle.office_model.specs.events.Resume as ResumeEvent
use Rattle.office_model.specs.events.PartialInfo.{partial_at}

-- the open dump of this name is one of the host of this name
pub record IsDumpOf (office : Office) (session : SessionName) (name : List ℕ) : Type 0 where
  pub dump : At Dump
  pub is_dump : dump_at office.dumps session ≡ Ok dump
  pub host : Host
  pub is_host : slice_get office.hosts dump.value.host ≡ Some host
  pub named : host.name ≡ name

-- the event commits, adopts or parks a dump of the host, or drops its partial
abbrev pub MayPart : Office → Event → List ℕ → Type 0
MayPart office (Commit session now) name = IsDumpOf office session name
MayPart office (Adopt session number start end kind) name = IsDumpOf office session name
MayPart office (Park session) name = IsDumpOf office session name
MayPart office (DropPartial dropped) name = dropped ≡ name
MayPart office event name = ⊥

-- a halted office carries nothing out
abbrev pub MayPartIn : State → Event → List ℕ → Type 0
MayPartIn (Running office names) event name = MayPart office event name
MayPartIn (Halted before next names) event name = ⊥

-- the host has this partial; of a halted office in each of the two that its disk may have
abbrev pub HasPartial : State → List ℕ → Partial → Type 0
HasPartial (Running office names) name partial = partial_at name office.hosts ≡ Ok partial
HasPartial (Halted before next names) name partial = (partial_at name before.hosts ≡ Ok partial) × (partial_at name next.hosts ≡ Ok partial)

-- no entry of a history does so
abbrev pub LeavesPartial : State → List Entry → List ℕ → Type 0
LeavesPartial state [] name = Unit {0}
LeavesPartial state (entry ∷ entries) name = (MayPartIn state entry.event name → ⊥) × LeavesPartial entry.state entries name

-- through a history without such an event the host has its partial, whatever the replies
abbrev pub PartialsStay : Type 0
PartialsStay = (state : State) (faults : ℕ) (entries : List Entry) (name : List ℕ) (partial : Partial) → IsSoundState state
    → IsHistory state faults entries → LeavesPartial state entries name → HasPartial state name partial
    → HasPartial (last_state state entries) name partial

-- behind a Park's Ok the dump's host has what the dump had
abbrev pub ParkedIsPartial : Type 0
ParkedIsPartial = (office : Office) (names : Names) (session : SessionName) (name : List ℕ) (c : Carried) → AreSound office names
    → (of : IsDumpOf office session name) → ParkEvent.carried session office ≡ Ok c
    → partial_at name c.after.hosts ≡ Ok (ParkEvent.partial_of of.dump.value)

-- a Resume's Ok opens a dump of the partial's kind and start, whose base and tree are its tree
abbrev pub ResumedIsPartial : Type 0
ResumedIsPartial = (office : Office) (name : List ℕ) (partial : Partial) (c : Carried) → partial_at name office.hosts ≡ Ok partial
    → ResumeEvent.carried name office ≡ Ok c
    → (place : ℕ) × (c.after.dumps ≡ office.dumps ++ new_dump (next_session office) place partial.kind partial.start partial.tree ∷ [])

-- no read of a backup shows what is parked: each look-up of a backup gives what it gave
abbrev pub ParkedReads : Type 0
ParkedReads = (office : Office) (session : SessionName) (c : Carried) (name : List ℕ) (number : ℕ) → ParkEvent.carried session office ≡ Ok c
    → backup_of c.after.hosts name number ≡ backup_of office.hosts name number
