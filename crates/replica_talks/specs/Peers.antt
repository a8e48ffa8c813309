-- The other server of a pull, by what was written to it and what came of it.
--     IsPeer      the calls of the connection's talk are of a legal history of that server
--     Talks      turns of a pull, over a link to such a server
--     IsRefusedThere      what it asked last was refused there
--     EndsEarly      what came ends behind the responses to what it heard, before or within one more
--     LeadsHome      what its turns call at home
use Rattle.std.specs.Prelude.{◌≡◌, ◌⊎◌, ℕ, true, List, [], ◌∷◌, ◌++◌, Some, Err, length, slice_get}
use Rattle.stream_traits.specs.Seen.{LinkSeen}
use Rattle.attr_records.specs.Names.{is_host_name}
use Rattle.office_model.specs.declared.event.Event.{Event}
use Rattle.office_model.specs.declared.refusal.Refusal.{Refusal}
use Rattle.office_model.specs.Office.{Office, Names, IsSound}
use Rattle.office_model.specs.UsedNames.{AreSound}
use Rattle.office_model.specs.Step.{Call, State, Running}
use Rattle.office_model.specs.History.{Entry, IsHistory, calls_of, Leads}
use Rattle.peer_exchange.specs.declared.fault.PeerFault.TheVariants as F
use Rattle.request_events.specs.declared.defaults.Defaults.{Defaults}
use Rattle.http_heads.specs.Responses.{IsEnded, IsTruncated, IsResponseRead}
use Rattle.http_replies.specs.Messages.{refusal_status}
use Rattle.browse_http.specs.declared.end.End.{End}
use Rattle.browse_http.specs.Talk as T
use Rattle.peer_talk.specs.Mirror.{Response, AreResponses, IsTalkBetween}
use Rattle.pull_codec.specs.Codec.{InRange}
use Rattle.pull_codec.specs.Relations.{AreInRange}
use Rattle.pull_work.specs.declared.plan.Plan.{Plan}
use Rattle.pull_work.specs.Steps.{Step, calls_in, AreTold}
use Rattle.pull_work.specs.Script.{Phase, Asking}
use Rattle.pull_work.specs.Runs.{Taken, AreTurns, steps_of}
use Rattle.replicas.specs.Replicas.{Marked, all_in, own_in, AreAlone, heard_in, IsReplica}
use Rattle.replica_talks.specs.Faults.{faults_in}

-- What a client wrote and read is of a talk of this server. In a legal history of it from this office on, the calls of that talk are
-- marked: the first of them is the history's first call, and no other call gets a frame of a restore of which they get one later.
pub record IsPeer (first : Office) (names : Names) (wrote read : List ℕ) : Type 0 where
  pub sound : AreSound first names
  pub faults : ℕ
  pub entries : List Entry
  pub legal : IsHistory (Running first names) faults entries
  pub marked : Marked
  pub calls : all_in marked ≡ calls_of entries
  pub defaults : Defaults
  pub exchanges : List T.Exchange
  -- the calls of a request that wasn't read whole
  pub cut : List Call
  pub end : End
  pub are : T.AreExchanges defaults exchanges
  pub in_range : AreInRange InRange exchanges
  pub talk : IsTalkBetween wrote read exchanges cut end
  pub own : own_in marked ≡ T.calls_of exchanges ++ cut
  pub alone : AreAlone marked
  pub begins : (call : Call) (more : List Call) → own_in marked ≡ call ∷ more → slice_get marked 0 ≡ Some (true, call)

-- the turns of a pull up to a phase, over a link whose input is told, and what they wrote to it; at its other end is such a server
pub record Talks (plan : Plan) (first : Office) (names : Names) (turns : List Taken) (phase : Phase) (old new : LinkSeen)
    (input wrote : List ℕ) : Type 0 where
  pub named : is_host_name plan.host ≡ true
  pub are : AreTurns plan Asking turns phase
  pub told : AreTold plan.host old new (steps_of turns)
  pub left : old.left ≡ Some input
  pub before : List ℕ
  pub written : old.written ≡ Some before
  pub wrote_is : new.written ≡ Some (before ++ wrote)
  pub peer : IsPeer first names wrote input

-- Of what a pull asked one event came to this status, and nothing behind it was asked: of the calls of its talk the one behind those that
-- it heard is that event, refused with a refusal of this status.
pub record IsRefusedThere (host : List ℕ) (steps : List Step) (calls : List Call) (status : ℕ) : Type 0 where
  pub event : Event
  pub refusal : Refusal
  pub more : List Call
  pub asked : faults_in host steps ≡ (event, F.Refused status) ∷ []
  pub calls_are : calls ≡ heard_in host steps ++ (event, Err refusal) ∷ more
  pub status_is : status ≡ refusal_status refusal

-- What came are the responses to what a pull heard, one after the other, and then it ends: before one more response, or within it.
pub record EndsEarly (host : List ℕ) (steps : List Step) (input : List ℕ) : Type 0 where
  pub answers : List Response
  pub each : length answers ≡ length (heard_in host steps)
  pub rest : List ℕ
  pub responses : AreResponses input answers rest
  pub ends : IsResponseRead rest IsEnded ⊎ IsResponseRead rest IsTruncated

-- The calls of the turns at home lead a sound office to this state; what home and the other server's office have in common had one tree.
pub record LeadsHome (plan : Plan) (home first : Office) (turns : List Taken) (state' : State) : Type 0 where
  pub names : Names
  pub faults : ℕ
  pub faults' : ℕ
  pub sound : IsSound home
  pub leads : Leads (Running home names) faults (calls_in (steps_of turns)) state' faults'
  pub replica : IsReplica home.hosts first.hosts plan.host
