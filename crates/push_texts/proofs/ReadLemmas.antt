-- What a server reads of a head, whatever its plan.
use Rattle.std.proofs.Common.{◌≡◌, ℕ, List, Some, Ok, ap, ◌∙◌}
use Rattle.http_heads.specs.Heads.{HeadParts}
use Rattle.http_query.specs.Query.{Pair, query_pairs}
use Rattle.http_routes.specs.Actions.{action_of}
use Rattle.http_routes.specs.Forms.{HasForm}
use Rattle.http_routes.specs.Targets.{path_of, query_of}
use Rattle.http_routes.specs.declared.route.Route.{Route}
use Rattle.http_routes.specs.declared.route.Action.{Action}
use Rattle.http_routes.proofs.FormLemmas.{forms_have_routes}
use Rattle.request_events.specs.declared.defaults.Defaults.{Defaults}
use Rattle.request_events.specs.declared.plan.Plan.{Plan}
use Rattle.request_events.specs.declared.refusal.RequestRefusal.TheVariants.{NoMethod}
use Rattle.request_events.specs.Said.{◌>>=◌, or_refuse}
use Rattle.request_events.specs.Plans.{plan_for, action_at, action_asked, has_length, measured, planned}
use Rattle.request_events.specs.Events.{event_of}
use Rattle.request_events.specs.Asked.{goes_by_stages, staged_by, asked_by, asked}

module _ (path : List ℕ) (pairs : List Pair) (method : List ℕ) (route : Route) (action : Action) (plan : Plan)
    (form : HasForm route path) (does : action_of route method ≡ Some action) (plans : plan_for action path pairs ≡ Ok plan)
    (head : HeadParts) (says : head.method ≡ method) (names : path_of head.target ≡ path) (adds : query_pairs (query_of head.target) ≡ pairs)
    (fits : measured (has_length head) plan ≡ Ok plan) where
  planned-is : planned head ≡ Ok plan
  unfolding planned
  planned-is =
      (λ i. action_asked (names i) (says i) >>= λ a. plan_for a (names i) (adds i) >>= λ p. measured (has_length head) p)
      ∙ ap (λ r. action_at method r >>= λ a. plan_for a path pairs >>= λ p. measured (has_length head) p) (forms_have_routes path route form)
      ∙ ap (λ a. or_refuse (NoMethod route) a >>= λ b. plan_for b path pairs >>= λ p. measured (has_length head) p) does
      ∙ ap (λ said. said >>= λ p. measured (has_length head) p) plans
      ∙ fits

  pub asked-plan : (body : List ℕ) (moment : ℕ) (defaults : Defaults)
      → asked head body moment defaults ≡ asked_by (staged_by (goes_by_stages head) plan) (event_of plan body moment defaults)
  unfolding asked
  asked-plan body moment defaults =
      ap (λ said. said >>= λ p. asked_by (staged_by (goes_by_stages head) p) (event_of p body moment defaults)) planned-is
