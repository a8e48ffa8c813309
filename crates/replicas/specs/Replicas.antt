-- What a pull leaves at home, by what the other server's history had.
--     heard_in      the calls of the other server that a pull heard, in order
--     IsHeard      they are among the calls of its history from the listing on, and none of others gets a frame in between
--     IsReplica      a backup that both servers have with one number, times and kind has one tree
--     Brings, PullBrings      the host's backups at home are those before, and a beginning of those to be brought; no other host changed
--     DoneBringsAll      all of them, if the pull ended well
use Rattle.std.specs.Prelude.{◌≡◌, ◌≢◌, ℕ, nat_le, Bool, true, false, List, [], ◌∷◌, ◌++◌, map, take, length, Ok, slice_get, Some}
use Rattle.std.specs.List.{filter}
use Rattle.std.specs.Option.{option_map_or}
use Rattle.receipts.specs.declared.session.SessionName.{SessionName}
use Rattle.tree_frames.specs.declared.nodes.Frame.{Frame}
use Rattle.office_model.specs.declared.event.Event.TheVariants as E
use Rattle.office_model.specs.declared.answer.Answer.TheVariants as A
use Rattle.office_model.specs.Office.{Office, Host, Names, IsSound}
use Rattle.office_model.specs.UsedNames.{Among, AreSound}
use Rattle.office_model.specs.Step.{Call, State, Running, Halted}
use Rattle.office_model.specs.History.{Entry, IsHistory, calls_of, Leads}
use Rattle.restore_histories.specs.Given.{given_by, given_in}
use Rattle.restore_histories.specs.Listed.{Shown}
use Rattle.adopted_dumps.specs.Adopted.{shows_of, host_named}
use Rattle.pull_work.specs.declared.plan.Plan.{Plan}
use Rattle.pull_work.specs.declared.ends.PullEnd.TheVariants.{Done}
use Rattle.pull_work.specs.Steps.{Step, Lists, Opens, Reads, Closes, calls_in}
use Rattle.pull_work.specs.Script.{Phase, Asking, Over}
use Rattle.pull_work.specs.Runs.{Taken, AreTurns, steps_of}

-- the calls that were answered by the other server, and read
abbrev pub heard_in : List ℕ → List Step → List Call
heard_in host [] = []
heard_in host (Lists (Ok there) ∷ steps) = (E.Backups host, Ok (A.Backups there.lines there.next there.dump)) ∷ heard_in host steps
heard_in host (Opens number base (Ok restore) ∷ steps) = (E.OpenRead host number base, Ok (A.Restore restore)) ∷ heard_in host steps
heard_in host (Reads restore (Ok frame) ∷ steps) = (E.ReadNext restore, Ok (A.Next frame)) ∷ heard_in host steps
heard_in host (Closes restore (Ok done) ∷ steps) = (E.CloseRead restore, Ok A.Done) ∷ heard_in host steps
heard_in host (step ∷ steps) = heard_in host steps

-- ---- the other server

-- its calls, and of each whether the pull heard its reply
abbrev pub Marked : Type 0
Marked = List (Bool × Call)

abbrev pub all_in : Marked → List Call
all_in marked = map (λ c. c.1) marked

abbrev pub own_in : Marked → List Call
own_in [] = []
own_in ((true, call) ∷ marked) = call ∷ own_in marked
own_in ((false, call) ∷ marked) = own_in marked

-- no other call gets a frame of a restore of which the pull hears a frame later
abbrev pub AreAlone : Marked → Type 0
AreAlone [] = Unit {0}
AreAlone ((true, call) ∷ marked) = AreAlone marked
AreAlone ((false, call) ∷ marked) =
    ((restore : SessionName) (frame : Frame) (more : List Frame) → given_in restore (own_in marked) ≡ frame ∷ more
    → given_by restore call.0 call.1 ≡ []) × AreAlone marked

-- in a legal history of the other server from the office in which it listed the host's backups, the pull's calls are those that it
-- heard, in order; if it heard one, the first call is the listing
pub record IsHeard (first : Office) (names : Names) (heard : List Call) : Type 0 where
  pub sound : AreSound first names
  pub faults : ℕ
  pub entries : List Entry
  pub legal : IsHistory (Running first names) faults entries
  pub marked : Marked
  pub calls : all_in marked ≡ calls_of entries
  pub own : own_in marked ≡ heard
  pub alone : AreAlone marked
  pub begins : (call : Call) (more : List Call) → heard ≡ call ∷ more → slice_get marked 0 ≡ Some (true, call)

-- ---- home

-- the backups of a host as they are shown; none of a host that isn't there
abbrev pub shown_in : List Host → List ℕ → List Shown
shown_in hosts host = option_map_or (λ h. shows_of h.backups) (host_named hosts host) []

-- its next number, 0 if it isn't there
abbrev pub next_in : List Host → List ℕ → ℕ
next_in hosts host = option_map_or (λ h. h.next) (host_named hosts host) 0

-- a backup that both have with one number, start, end and kind has one tree
abbrev pub IsReplica : List Host → List Host → List ℕ → Type 0
IsReplica home first host =
    (own there : Shown) → Among (shown_in home host) own → Among (shown_in first host) there → own.number ≡ there.number
    → own.start ≡ there.start → own.end ≡ there.end → own.kind ≡ there.kind → own.tree ≡ there.tree

-- what is to be brought: the other server's backups from home's next number on
abbrev pub wanted : List Host → List Host → List ℕ → List Shown
wanted home first host = filter (λ shown. nat_le (next_in home host) shown.number) (shown_in first host)

-- every other host is as it was
abbrev pub OthersStay : (old new : List Host) → List ℕ → Type 0
OthersStay old new host = (other : List ℕ) → other ≢ host → host_named new other ≡ host_named old other

-- the host's backups are those before, and then a beginning of those that were to be brought; no other host changed
abbrev pub Brings : (old : List Host) → (wanted : List Shown) → List ℕ → List Host → Type 0
Brings old wanted host new = (n : ℕ) × (shown_in new host ≡ shown_in old host ++ take n wanted) × OthersStay old new host

-- of a halted office in each of the two that its disk may have
abbrev pub BringsIn : List Host → List Shown → List ℕ → State → Type 0
BringsIn old wanted host (Running office names) = Brings old wanted host office.hosts
BringsIn old wanted host (Halted before next names) = Brings old wanted host before.hosts × Brings old wanted host next.hosts

-- they are those before, and then all of these
abbrev pub BringsAll : List Host → List Shown → List ℕ → State → Type 0
BringsAll old wanted host (Running office names) = shown_in office.hosts host ≡ shown_in old host ++ wanted
BringsAll old wanted host (Halted before next names) = ⊥

-- a host's list of backups stays a replica: of a halted office in each of the two that its disk may have
abbrev pub StaysReplica : List Host → List ℕ → State → Type 0
StaysReplica first host (Running office names) = IsReplica office.hosts first host
StaysReplica first host (Halted before next names) = IsReplica before.hosts first host × IsReplica next.hosts first host

-- ---- the theorem

-- a pull from one server to another: home is the office in which it began, first the one in which the other server listed the backups
pub record Pulls (plan : Plan) (home first : Office) (phase : Phase) (state' : State) : Type 0 where
  pub names : Names
  pub faults : ℕ
  pub faults' : ℕ
  pub there : Names
  pub turns : List Taken
  pub sound : IsSound home
  pub are : AreTurns plan Asking turns phase
  pub leads : Leads (Running home names) faults (calls_in (steps_of turns)) state' faults'
  pub heard : IsHeard first there (heard_in plan.host (steps_of turns))
  pub replica : IsReplica home.hosts first.hosts plan.host

-- however far it came, the host's backups are those before and a beginning of those to be brought, and still agree; no other host changed
abbrev pub PullBrings : Type 0
PullBrings = (plan : Plan) (home first : Office) (phase : Phase) (state' : State) → Pulls plan home first phase state'
    → BringsIn home.hosts (wanted home.hosts first.hosts plan.host) plan.host state' × StaysReplica first.hosts plan.host state'

-- one that ended well brought all of them, and says how many
abbrev pub DoneBringsAll : Type 0
DoneBringsAll = (plan : Plan) (home first : Office) (count : ℕ) (state' : State) → Pulls plan home first (Over (Done count)) state'
    → (count ≡ length (wanted home.hosts first.hosts plan.host))
    × BringsAll home.hosts (wanted home.hosts first.hosts plan.host) plan.host state'
