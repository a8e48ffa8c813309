-- What a server reads of a head.
use Rattle.std.proofs.Common.{◌≡◌, ℕ, zero, suc, inr, List, [], ◌∷◌, ◌++◌, drop, Some, Ok, ap, ◌∙◌}
use Rattle.http_routes.specs.Table.{Named}
use Rattle.http_heads.specs.Heads.{HeadParts}
use Rattle.http_query.specs.Query.{Pair, query_pairs}
use Rattle.http_routes.specs.Actions.{action_of}
use Rattle.http_routes.specs.Forms.{Takes, byte, Has, HasForm}
use Rattle.http_routes.specs.Targets.{path_of, query_of}
use Rattle.http_routes.specs.declared.route.Route.{Route}
use Rattle.http_routes.specs.declared.route.Action.{Action}
use Rattle.http_routes.proofs.FormLemmas.{forms_have_routes}
use Rattle.office_model.specs.declared.event.Event.{Event}
use Rattle.request_events.specs.declared.defaults.Defaults.{Defaults}
use Rattle.request_events.specs.declared.plan.Plan.TheVariants as P
use Rattle.request_events.specs.declared.refusal.RequestRefusal.TheVariants.{NoMethod}
use Rattle.request_events.specs.Said.{◌>>=◌, or_refuse}
use Rattle.request_events.specs.Plans.{plan_for, action_at, action_asked, has_length, measured, planned}
use Rattle.request_events.specs.Events.{event_of}
use Rattle.request_events.specs.Asked.{One, goes_by_stages, staged_by, asked_by, asked}

-- ---- forms

-- a literal part stands for itself
pub takes_text : (text : List ℕ) {t path : List ℕ} → Takes t path → Takes (text ++ t) (text ++ path)
takes_text [] h = h
takes_text (b ∷ text) h = byte (takes_text text h)

-- a row behind so many others
pub has_at : (t : List ℕ) (k : Route) (n : ℕ) (rows : List Named) → Has t k (drop n rows) → Has t k rows
has_at t k zero rows h = h
has_at t k (suc n) [] h = h
has_at t k (suc n) ((u, l) ∷ rows) h = inr (has_at t k n rows h)

-- ---- events

module _ (path : List ℕ) (pairs : List Pair) (method : List ℕ) (route : Route) (action : Action) (event : Event)
    (form : HasForm route path) (does : action_of route method ≡ Some action) (plans : plan_for action path pairs ≡ Ok (P.Ready event))
    (head : HeadParts) (says : head.method ≡ method) (names : path_of head.target ≡ path) (adds : query_pairs (query_of head.target) ≡ pairs) where
  planned-is : planned head ≡ Ok (P.Ready event)
  unfolding planned
  planned-is =
      (λ i. action_asked (names i) (says i) >>= λ a. plan_for a (names i) (adds i) >>= λ plan. measured (has_length head) plan)
      ∙ ap (λ r. action_at method r >>= λ a. plan_for a path pairs >>= λ plan. measured (has_length head) plan) (forms_have_routes path route form)
      ∙ ap (λ a. or_refuse (NoMethod route) a >>= λ b. plan_for b path pairs >>= λ plan. measured (has_length head) plan) does
      ∙ ap (λ said. said >>= λ plan. measured (has_length head) plan) plans

  pub asked-is : (body : List ℕ) (moment : ℕ) (defaults : Defaults) → asked head body moment defaults ≡ Ok (One event)
  unfolding asked
  asked-is body moment defaults =
      ap (λ said. said >>= λ plan. asked_by (staged_by (goes_by_stages head) plan) (event_of plan body moment defaults)) planned-is
