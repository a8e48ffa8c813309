-- A pull makes a replica, by what it wrote and read.
use Rattle.replicas.specs.ReplicaLaws.{pull_brings, done_brings_all}
use Rattle.pull_work.specs.Script.{Phase, Over}
use Rattle.pull_work.specs.declared.plan.Plan.{Plan}
use Rattle.pull_work.specs.declared.ends.PullEnd.TheVariants.{Done}
use Rattle.pull_work.specs.Runs.{Taken}
use Rattle.std.proofs.Common.{ℕ, List}
use Rattle.stream_traits.specs.Seen.{LinkSeen}
use Rattle.office_model.specs.Office.{Office, Names}
use Rattle.office_model.specs.Step.{State}
use Rattle.replicas.specs.Replicas.{Pulls}
use Rattle.replica_talks.specs.Peers.{Talks, LeadsHome}
use Rattle.replica_talks.specs.TalkLaws.{TalksMakeReplicas, DoneTalksBringAll}
use Rattle.replica_talks.proofs.Served.{talks_heard}

-- the premises of the laws of a replica
pulls : (plan : Plan) (home first : Office) (there : Names) (turns : List Taken) (phase : Phase) (old new : LinkSeen) (input wrote : List ℕ)
    (state' : State) → Talks plan first there turns phase old new input wrote → LeadsHome plan home first turns state'
    → Pulls plan home first phase state'
pulls plan home first there turns phase old new input wrote state' talks leads = record {
  names = leads.names;
  faults = leads.faults;
  faults' = leads.faults';
  there = there;
  turns = turns;
  sound = leads.sound;
  are = talks.are;
  leads = leads.leads;
  heard = talks_heard plan first there turns phase old new input wrote talks;
  replica = leads.replica;
}

pub talks_replicate : TalksMakeReplicas
talks_replicate plan home first there turns phase old new input wrote state' talks leads =
    pull_brings plan home first phase state' (pulls plan home first there turns phase old new input wrote state' talks leads)

pub done_talks_bring : DoneTalksBringAll
done_talks_bring plan home first there turns count old new input wrote state' talks leads =
    done_brings_all plan home first count state'
    (pulls plan home first there turns (Over (Done count)) old new input wrote state' talks leads)
