-- What the link of a pull tells of the other server.
--     TalksAreHeard      what it heard are calls of that server's history
--     RefusalsAreSaid      a pull that ended by a refusal of that server was refused there, or there was no memory
--     ForeignIsCut      an answer of that server is foreign only if it didn't come whole
--     TalksMakeReplicas, DoneTalksBringAll      so what it leaves at home is as the laws of a replica have it
use Rattle.std.specs.Prelude.{◌≡◌, ◌⊎◌, ℕ, List, length, Some}
use Rattle.std.specs.List.{Contains}
use Rattle.stream_traits.specs.Seen.{LinkSeen}
use Rattle.office_model.specs.declared.event.Event.{Event}
use Rattle.office_model.specs.Office.{Office, Names}
use Rattle.office_model.specs.Step.{State}
use Rattle.peer_exchange.specs.declared.fault.PeerFault.TheVariants as F
use Rattle.pull_work.specs.declared.plan.Plan.{Plan}
use Rattle.pull_work.specs.Script.{Phase, Over}
use Rattle.pull_work.specs.Runs.{Taken, steps_of}
use Rattle.pull_work.specs.declared.ends.PullEnd.TheVariants.{Done, PeerRefused}
use Rattle.replicas.specs.Replicas.{own_in, heard_in, IsHeard, wanted, BringsIn, BringsAll, StaysReplica}
use Rattle.replica_talks.specs.Peers.{Talks, IsRefusedThere, EndsEarly, LeadsHome}
use Rattle.replica_talks.specs.Faults.{faults_in, end_in}

-- what a pull heard are calls of the other server's history
abbrev pub TalksAreHeard : Type 0
TalksAreHeard =
    (plan : Plan) (first : Office) (names : Names) (turns : List Taken) (phase : Phase) (old new : LinkSeen) (input wrote : List ℕ)
    → Talks plan first names turns phase old new input wrote → IsHeard first names (heard_in plan.host (steps_of turns))

-- a pull that ends, or is about to, by a refusal of the other server was refused there, or that had no memory
abbrev pub RefusalsAreSaid : Type 0
RefusalsAreSaid =
    (plan : Plan) (first : Office) (names : Names) (turns : List Taken) (phase : Phase) (old new : LinkSeen) (input wrote : List ℕ)
    (talks : Talks plan first names turns phase old new input wrote) (status : ℕ) → end_in phase ≡ Some (PeerRefused status)
    → (status ≡ 507) ⊎ IsRefusedThere plan.host (steps_of turns) (own_in talks.peer.marked) status

-- if what was asked came to a foreign answer, then what came ends before the response to it, or within it
abbrev pub ForeignIsCut : Type 0
ForeignIsCut =
    (plan : Plan) (first : Office) (names : Names) (turns : List Taken) (phase : Phase) (old new : LinkSeen) (input wrote : List ℕ)
    → Talks plan first names turns phase old new input wrote → (event : Event)
    → Contains (faults_in plan.host (steps_of turns)) (event, F.Foreign) → EndsEarly plan.host (steps_of turns) input

-- ---- home

-- however far a pull came, and wherever its connection was cut: the host's backups at home are those before and a beginning of those that
-- were to be brought, and still agree with the other server's; no other host changed
abbrev pub TalksMakeReplicas : Type 0
TalksMakeReplicas =
    (plan : Plan) (home first : Office) (there : Names) (turns : List Taken) (phase : Phase) (old new : LinkSeen) (input wrote : List ℕ)
    (state' : State) → Talks plan first there turns phase old new input wrote → LeadsHome plan home first turns state'
    → BringsIn home.hosts (wanted home.hosts first.hosts plan.host) plan.host state' × StaysReplica first.hosts plan.host state'

-- one that ended well brought all of them, and says how many
abbrev pub DoneTalksBringAll : Type 0
DoneTalksBringAll =
    (plan : Plan) (home first : Office) (there : Names) (turns : List Taken) (count : ℕ) (old new : LinkSeen) (input wrote : List ℕ)
    (state' : State) → Talks plan first there turns (Over (Done count)) old new input wrote → LeadsHome plan home first turns state'
    → (count ≡ length (wanted home.hosts first.hosts plan.host))
    × BringsAll home.hosts (wanted home.hosts first.hosts plan.host) plan.host state'
