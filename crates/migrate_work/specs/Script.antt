-- What a migration calls.
--     events_after hosts      what is called once the names of the hosts are known
--     migration_script      the calls, one after the other
--     named_in calls      the number of hosts that were named
use Rattle.std.specs.Prelude.{ℕ, List, [], ◌∷◌, map, length, Some, None, Ok, Err}
use Rattle.office_model.specs.declared.event.Event.{Event}
use Rattle.office_model.specs.declared.event.Event.TheVariants as E
use Rattle.office_model.specs.declared.answer.Answer.TheVariants as A
use Rattle.office_model.specs.Step.{Call}
use Rattle.call_scripts.specs.Scripts.{Script, each_of}

abbrev pub events_after : List (List ℕ) → List Event
events_after hosts = map E.Migrate hosts

-- first the hosts, then a migration of each; none after a refusal
abbrev pub migration_script : Script
migration_script [] = Some E.Hosts
migration_script ((asked, Ok (A.Hosts hosts)) ∷ calls) = each_of (events_after hosts) calls
migration_script (call ∷ calls) = None

abbrev pub named_in : List Call → ℕ
named_in ((asked, Ok (A.Hosts hosts)) ∷ calls) = length hosts
named_in calls = 0
