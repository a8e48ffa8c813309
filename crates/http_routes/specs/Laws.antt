-- The routes in plain words.
use Rattle.std.specs.Prelude.{◌≡◌, ℕ, List, Some}
use Rattle.http_routes.specs.Actions.{route_of}
use Rattle.http_routes.specs.Forms.{HasForm}
use Rattle.http_routes.specs.declared.route.Route.{Route}

-- a path that has a route has its form
abbrev pub RoutesHaveForms : Type 0
RoutesHaveForms = (path : List ℕ) (route : Route) → route_of path ≡ Some route → HasForm route path

-- a path of the form of a route has this route
abbrev pub FormsHaveRoutes : Type 0
FormsHaveRoutes = (path : List ℕ) (route : Route) → HasForm route path → route_of path ≡ Some route
