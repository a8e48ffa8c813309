-- What the calls of a pull make of the home office.
--     shows_of      backups as both servers show them
--     Gains      a host has one backup more
--     DumpIsFilled      a dump into which was laid what leads from its tree to another has that one
--     DumpIsAdopted, DumpMayBeAdopted      adopted then, it is the host's newest backup; if the disk failed at that, it may be
--     PartsChangeNothing, FaultMayGain      no other call of a pull changes what the disk keeps, but for an adoption at which it failed
use Rattle.std.specs.Prelude.{◌≡◌, ◌≢◌, ℕ, ◌+◌, List, [], ◌∷◌, ◌++◌, map, Option, Some, None, Ok, Err, slice_get, ◌⊎◌}
use Rattle.std.specs.Option.{option_map, option_and_then}
use Rattle.attr_records.specs.Items.{Tree, is_dir}
use Rattle.attr_records.specs.Trees.{IsTree}
use Rattle.backup_rules.specs.declared.lines.Kind.{Kind}
use Rattle.backup_rules.specs.declared.lines.Kind.TheVariants.{Full, Incr}
use Rattle.backup_rules.specs.declared.lines.Line.{Line}
use Rattle.receipts.specs.declared.session.SessionName.{SessionName}
use Rattle.office_model.specs.declared.event.Event.{Event}
use Rattle.office_model.specs.declared.event.Event.TheVariants as E
use Rattle.office_model.specs.declared.answer.Answer.TheVariants as A
use Rattle.office_model.specs.declared.refusal.Refusal.TheVariants.{DiskFault}
use Rattle.office_model.specs.Office.{Office, Durable, Host, Backup, Names, IsSound, host_index}
use Rattle.office_model.specs.Parts.{newest}
use Rattle.office_model.specs.Meaning.{Reply}
use Rattle.office_model.specs.Step.{Call, State, Running, Halted, IsSoundState}
use Rattle.office_model.specs.History.{Leads}
use Rattle.folder_laws.specs.Calls.{open_call}
use Rattle.folder_laws.specs.OfficeLaws.{HasDump}
use Rattle.frame_puts.specs.Runs.{LaidSince}
use Rattle.restore_histories.specs.Listed.{Shown, shown_as, shown_of}

-- ---- backups as they are shown

-- what each of a host's backups is on each server
abbrev pub shows_of : List Backup → List Shown
shows_of backups = map shown_of backups

-- ---- hosts

-- the host of a name, if there is one
abbrev pub host_named : List Host → List ℕ → Option Host
host_named hosts name = option_and_then (slice_get hosts) (host_index hosts name)

-- the host of this name has a backup more, its newest, that is shown so, and its next number is the one behind it; the backups before it
-- are shown as they were, its rules stay, and every other host is as it was
pub record Gains (old new : List Host) (name : List ℕ) (shown : Shown) : Type 0 where
  pub before : Host
  pub after : Host
  pub was : host_named old name ≡ Some before
  pub is : host_named new name ≡ Some after
  pub shows : shows_of after.backups ≡ shows_of before.backups ++ shown ∷ []
  pub next_is : after.next ≡ shown.number + 1
  pub rules_stay : after.rules ≡ before.rules
  pub others : (other : List ℕ) → other ≢ name → host_named new other ≡ host_named old other

-- ---- a dump is filled

-- the tree of a base, the empty one if there is none
abbrev pub tree_of : Option Tree → Tree
tree_of None = []
tree_of (Some base) = base

-- the dump of a host is open with this tree in a sound office that keeps on disk what another kept; the rest of the history comes behind
pub record IsFilled (old : Office) (dump : SessionName) (name : List ℕ) (tree : Tree) (more : List Call) (state' : State) (faults' : ℕ)
    : Type 0 where
  pub office : Office
  pub names : Names
  pub faults : ℕ
  pub sound : IsSound office
  pub kept : office.durable ≡ old.durable
  pub has : HasDump office dump name tree
  pub rest : Leads (Running office names) faults more state' faults'

-- what leads from a base to a tree was laid into a dump with the base's tree: it has the tree
abbrev pub DumpIsFilled : Type 0
DumpIsFilled =
    (office : Office) (names : Names) (faults : ℕ) (dump : SessionName) (name : List ℕ) (base : Option Tree) (tree : Tree)
    (calls more : List Call) (state' : State) (faults' : ℕ)
    → IsSound office → HasDump office dump name (tree_of base) → IsTree is_dir tree → LaidSince dump base tree calls
    → Leads (Running office names) faults (calls ++ more) state' faults'
    → IsFilled office dump name tree more state' faults'

-- ---- a dump is adopted

-- what a dump of this kind is laid since: nothing, or the tree of the newest backup
abbrev pub base_of : Kind → List Backup → Option Tree
base_of Full backups = None
base_of Incr backups = option_map (λ backup. backup.tree) (newest backups)

-- a dump is to be the backup that it is on the other server
abbrev pub adopt_event : SessionName → Line → Event
adopt_event dump line = E.Adopt dump line.number line.start line.end line.kind

-- and it was adopted as that
abbrev pub adopt_call : SessionName → Line → Call
adopt_call dump line = (adopt_event dump line, Ok (A.Committed line.number))

-- a dump of a host was opened, and what leads from its base to a tree was laid into it
pub record IsLaidOpen (office : Office) (name : List ℕ) (kind : Kind) (dump : SessionName) (tree : Tree) (calls : List Call) : Type 0 where
  pub start : ℕ
  pub host : Host
  pub laid : List Call
  pub is_host : host_named office.hosts name ≡ Some host
  pub is_laid : LaidSince dump (base_of kind host.backups) tree laid
  pub calls_are : calls ≡ open_call name kind start dump ∷ laid

-- the host gained this backup in a sound office; the rest of the history comes behind
pub record IsAdopted (old : Office) (name : List ℕ) (shown : Shown) (more : List Call) (state' : State) (faults' : ℕ) : Type 0 where
  pub office : Office
  pub names : Names
  pub faults : ℕ
  pub sound : IsSound office
  pub gains : Gains old.hosts office.hosts name shown
  pub rest : Leads (Running office names) faults more state' faults'

-- such a dump was adopted: its host has a backup more, with the tree that was laid
abbrev pub DumpIsAdopted : Type 0
DumpIsAdopted =
    (office : Office) (names : Names) (faults : ℕ) (name : List ℕ) (kind : Kind) (dump : SessionName) (line : Line) (tree : Tree)
    (calls more : List Call) (state' : State) (faults' : ℕ)
    → IsTree is_dir tree → IsLaidOpen office name kind dump tree calls
    → Leads (Running office names) faults (calls ++ adopt_call dump line ∷ more) state' faults'
    → IsAdopted office name (shown_as line tree) more state' faults'

-- the disk keeps what it kept, or the office halted between that and the host's gain
abbrev pub MayGain : Office → List ℕ → Shown → State → Type 0
MayGain old name shown (Running new names) = new.durable ≡ old.durable
MayGain old name shown (Halted before next names) = (before ≡ old.durable) × Gains old.hosts next.hosts name shown

-- one of these came, in a sound state; the rest of the history comes behind
pub record IsMaybeAdopted (old : Office) (name : List ℕ) (shown : Shown) (more : List Call) (state' : State) (faults' : ℕ) : Type 0 where
  pub state : State
  pub faults : ℕ
  pub sound : IsSoundState state
  pub may : MayGain old name shown state
  pub rest : Leads state faults more state' faults'

-- such a dump was to be adopted, and a fault of the disk came in the place of the answer
abbrev pub DumpMayBeAdopted : Type 0
DumpMayBeAdopted =
    (office : Office) (names : Names) (faults : ℕ) (name : List ℕ) (kind : Kind) (dump : SessionName) (line : Line) (tree : Tree)
    (calls more : List Call) (state' : State) (faults' : ℕ)
    → IsTree is_dir tree → IsLaidOpen office name kind dump tree calls
    → Leads (Running office names) faults (calls ++ (adopt_event dump line, Err DiskFault) ∷ more) state' faults'
    → IsMaybeAdopted office name (shown_as line tree) more state' faults'

-- ---- all other calls

-- what a pull calls, but for what adds a host and what adopts a dump
abbrev pub IsPart : Event → Type 0
IsPart (E.OpenDump name kind now token) = Unit {0}
IsPart (E.Put dump path item token) = Unit {0}
IsPart (E.Remove dump path token) = Unit {0}
IsPart (E.StageOpen dump) = Unit {0}
IsPart (E.StagePiece stage bytes) = Unit {0}
IsPart (E.Abort dump) = Unit {0}
IsPart (E.Backups name) = Unit {0}
IsPart event = ⊥

-- refused, and by no fault of the disk
abbrev pub IsRefused : Reply → Type 0
IsRefused (Ok answer) = ⊥
IsRefused (Err DiskFault) = ⊥
IsRefused (Err refusal) = Unit {0}

-- such a call, whatever its reply, or an adoption that was refused
abbrev pub AdoptsNone : Event → Reply → Type 0
AdoptsNone (E.Adopt dump number start end kind) reply = IsRefused reply
AdoptsNone event reply = IsPart event

-- each of the calls is such a one
abbrev pub AdoptNone : List Call → Type 0
AdoptNone [] = Unit {0}
AdoptNone (call ∷ calls) = AdoptsNone call.0 call.1 × AdoptNone calls

-- the disk keeps what it kept, and so it does between two of which it keeps one
abbrev pub IsUnchanged : State → State → Type 0
IsUnchanged (Running old names) (Running new names') = new.durable ≡ old.durable
IsUnchanged (Halted before next names) (Halted before' next' names') = (before' ≡ before) × (next' ≡ next)
IsUnchanged old new = ⊥

-- such calls change nothing that the disk keeps
abbrev pub PartsChangeNothing : Type 0
PartsChangeNothing =
    (state : State) (faults : ℕ) (calls : List Call) (state' : State) (faults' : ℕ)
    → Leads state faults calls state' faults' → AdoptNone calls → IsUnchanged state state'

-- the disk keeps the same, or some host of it gained some backup
abbrev pub MayGainAny : Durable → Durable → Type 0
MayGainAny old new = (new ≡ old) ⊎ ((name : List ℕ) × (shown : Shown) × Gains old.hosts new.hosts name shown)

-- the disk keeps what it kept, or the office halted between that and what it would keep
abbrev pub IsLeftBy : State → State → Type 0
IsLeftBy (Running old names) (Running new names') = new.durable ≡ old.durable
IsLeftBy (Running old names) (Halted before next names') = (before ≡ old.durable) × MayGainAny old.durable next
IsLeftBy old new = ⊥

-- behind such calls a fault of the disk came in the place of the answer to an adoption
abbrev pub FaultMayGain : Type 0
FaultMayGain =
    (state : State) (faults : ℕ) (calls : List Call) (dump : SessionName) (line : Line) (state' : State) (faults' : ℕ)
    → IsSoundState state → Leads state faults (calls ++ (adopt_event dump line, Err DiskFault) ∷ []) state' faults' → AdoptNone calls
    → IsLeftBy state state'
