-- From a head to what it asks for, or to why it is refused.
--     plan_for      the plan of each action
--     planned      the plan of a head: its route and method, then the names of its path, then its query, then the want of a length
use Rattle.std.specs.Prelude.{ℕ, Bool, true, false, ◌&&◌, ◌||◌, not, List, Option, Some, None, Ok, Err, is_some, if◌then◌else◌}
use Rattle.http_heads.specs.Heads.{HeadParts}
use Rattle.http_query.specs.Query.{Pair, query_pairs}
use Rattle.http_routes.specs.Actions.{route_of, action_of}
use Rattle.http_routes.specs.Targets.{path_of, query_of}
use Rattle.http_routes.specs.declared.route.Route.{Route}
use Rattle.http_routes.specs.declared.route.Action.{Action}
use Rattle.http_routes.specs.declared.route.Action.TheVariants as A
use Rattle.request_events.specs.declared.refusal.RequestRefusal.TheVariants.{NoRoute, NoMethod, NoLength}
use Rattle.request_events.specs.declared.plan.Plan.{Plan}
use Rattle.request_events.specs.declared.plan.Plan.TheVariants as P
use Rattle.request_events.specs.Said.{Said, ◌>>=◌, or_refuse}
use Rattle.request_events.specs.Keys.{keys_of, taken}
use Rattle.request_events.specs.Names.{host_in, number_in, session_in}
use Rattle.request_events.specs.OfficeEvents.{office_event}
use Rattle.request_events.specs.HostPlans.{host_plan}
use Rattle.request_events.specs.BackupEvents.{backup_event}
use Rattle.request_events.specs.SessionPlans.{session_plan}

-- what an action asks for: the names of the path, then the keys, then the values
abbrev pub plan_for : Action → List ℕ → List Pair → Said Plan
plan_for (A.Office action) path pairs = do
  known ← taken (keys_of (A.Office action) pairs) pairs
  event ← office_event action pairs
  Ok (P.Ready event)
plan_for (A.Host action) path pairs = do
  host ← host_in path
  known ← taken (keys_of (A.Host action) pairs) pairs
  host_plan action host pairs
plan_for (A.Backup action) path pairs = do
  host ← host_in path
  number ← number_in path
  known ← taken (keys_of (A.Backup action) pairs) pairs
  event ← backup_event action host number pairs
  Ok (P.Ready event)
plan_for (A.Session action) path pairs = do
  known ← taken (keys_of (A.Session action) pairs) pairs
  session_plan action (session_in path) pairs

-- what a method asks for at a route
abbrev pub action_at : List ℕ → Option Route → Said Action
action_at method None = Err NoRoute
action_at method (Some route) = or_refuse (NoMethod route) (action_of route method)

abbrev pub action_asked : List ℕ → List ℕ → Said Action
action_asked path method = action_at method (route_of path)

-- the end of the body is known: it has a length, or comes in chunks
abbrev pub has_length : HeadParts → Bool
has_length head = is_some head.content_length || head.chunked

abbrev pub is_file : Plan → Bool
is_file (P.PutFile put) = true
is_file plan = false

-- a file's bytes need a length
abbrev pub measured : Bool → Plan → Said Plan
measured has_length plan = if is_file plan && not has_length then Err NoLength else Ok plan

unfoldable pub planned : HeadParts → Said Plan
planned head = do
  action ← action_asked (path_of head.target) head.method
  plan ← plan_for action (path_of head.target) (query_pairs (query_of head.target))
  measured (has_length head) plan
