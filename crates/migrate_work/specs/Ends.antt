-- What a migration did, by how it ended.
--     Ends end calls      the calls of a migration that ended so
--     Works moves old new end      they lead from one state of a port to another
--     Carried, Stopped      what its steps give: the events were called, to the last or to one that was refused
use Rattle.std.specs.Prelude.{◌≡◌, ℕ, List, [], ◌∷◌, ◌++◌, Ok, Err}
use Rattle.office_model.specs.declared.event.Event.{Event}
use Rattle.office_model.specs.declared.event.Event.TheVariants as E
use Rattle.office_model.specs.declared.answer.Answer.TheVariants as A
use Rattle.office_model.specs.declared.refusal.Refusal.{Refusal}
use Rattle.office_model.specs.Step.{Call}
use Rattle.call_scripts.specs.Scripts.{Follows, events_of, AreAnswered, EndRefused}
use Rattle.migrate_work.specs.declared.ends.MigrationEnd.{MigrationEnd}
use Rattle.migrate_work.specs.declared.ends.MigrationEnd.TheVariants.{Done, Refused, Memory}
use Rattle.migrate_work.specs.Script.{migration_script, named_in}

-- They follow the script: to the end if all were answered, or up to the first refusal. For want of memory only the hosts were asked for.
abbrev pub Ends : MigrationEnd → List Call → Type 0
Ends (Done count) calls = Follows migration_script calls × AreAnswered calls × (count ≡ named_in calls)
Ends (Refused refusal) calls = Follows migration_script calls × EndRefused refusal calls
Ends Memory calls = (hosts : List (List ℕ)) × (calls ≡ (E.Hosts, Ok (A.Hosts hosts)) ∷ [])

pub record Works {P : Type 0} (moves : P → List Call → P → Type 0) (old new : P) (end : MigrationEnd) : Type 0 where
  pub calls : List Call
  pub moved : moves old calls new
  pub ends : Ends end calls

-- these events were called, and each was answered
pub record Carried {P : Type 0} (moves : P → List Call → P → Type 0) (old new : P) (events : List Event) : Type 0 where
  pub calls : List Call
  pub moved : moves old calls new
  pub asked : events_of calls ≡ events
  pub answered : AreAnswered calls

-- the events up to one were called; that one was refused, and those before it were answered
pub record Stopped {P : Type 0} (moves : P → List Call → P → Type 0) (old new : P) (events : List Event) (refusal : Refusal) : Type 0 where
  pub before : List Call
  pub event : Event
  pub later : List Event
  pub moved : moves old (before ++ (event, Err refusal) ∷ []) new
  pub asked : events ≡ events_of before ++ event ∷ later
  pub answered : AreAnswered before
