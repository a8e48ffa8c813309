-- From the router's answer to the form of a path, and back.
use Rattle.std.proofs.Common.{◌≡◌, List, ℕ, Option, Some, None, true, refl, sym, ap, ◌∙◌, subst, arith, option_map, IfSome}
use Rattle.matchit.specs.Seek.{first}
use Rattle.matchit.specs.Router.{RouteOf, map_key}
use Rattle.http_routes.specs.Actions.{route_of}
use Rattle.http_routes.specs.Forms.{Takes, HasForm, tokens_of}
use Rattle.http_routes.specs.Table.{table}
use Rattle.http_routes.specs.declared.route.Route.{Route}
use Rattle.http_routes.proofs.Patterns.{patterns, first-patterns, pattern-text, text-pattern}
use Rattle.http_routes.proofs.ApartLemmas.{are_cut, are_apart, cut_at, one_row}
use Rattle.http_routes.proofs.FindLemmas.{found_of}
use Rattle.http_routes.proofs.SoundLemmas.{sound}

-- what the search rests on, computed from the texts
patterns-cut : are_cut patterns ≡ true
patterns-cut = refl

patterns-apart : are_apart patterns ≡ true
patterns-apart = refl

-- the route of a path is what the search over the tokens finds
same_route : (found : Option (RouteOf Route)) → map_key (λ r. r.value) found ≡ option_map (λ r. r.value) found
same_route None = refl
same_route (Some x) = refl

route_is_first : (path : List ℕ) → route_of path ≡ first patterns path
unfolding route_of
route_is_first path = sym (same_route (first table path)) ∙ first-patterns path

pub routes_have_forms : (path : List ℕ) (route : Route) → route_of path ≡ Some route → HasForm route path
routes_have_forms path route found =
    let at = sound path 0 patterns route (omega arith) (sym (route_is_first path) ∙ found) in
    let named = pattern-text at.0 route at.1 in
    (named.0, named.1, subst (λ t. Takes t path) (sym named.2) at.2)

pub forms_have_routes : (path : List ℕ) (route : Route) → HasForm route path → route_of path ≡ Some route
forms_have_routes path route form =
    let row = text-pattern form.0 route form.1 in
    let found = found_of (tokens_of form.0) path route patterns (cut_at patterns patterns-cut) row form.2 in
    let at = sound path 0 patterns found.0 (omega arith) found.1 in
    let same : found.0 ≡ route = one_row patterns patterns-cut patterns-apart at.0 (tokens_of form.0) path found.0 route at.1 row at.2 form.2 in
    route_is_first path ∙ found.1 ∙ ap Some same

pub form_of_found : (path : List ℕ) (found : Option Route) → route_of path ≡ found → IfSome found (λ route. HasForm route path)
form_of_found path None e = tt
form_of_found path (Some route) e = routes_have_forms path route e
