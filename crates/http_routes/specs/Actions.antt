-- From a path to its route, and from a method to what it asks for there.
use Rattle.std.specs.Prelude.{ℕ, List, [], ◌∷◌, ◌++◌, codes, Option, Some, None, bytes_eq, if◌then◌else◌}
use Rattle.std.specs.Option.{option_map}
use Rattle.matchit.specs.Seek.{first}
use Rattle.http_routes.specs.Table.{table, Row, actions_of}
use Rattle.http_routes.specs.declared.route.Route.{Route}
use Rattle.http_routes.specs.declared.route.Action.{Action}

-- the route of a path
unfoldable pub route_of : List ℕ → Option Route
route_of path = option_map (λ found. found.value) (first table path)

-- what the first row of this method asks for
abbrev pub asked_by : List ℕ → List Row → Option Action
asked_by method [] = None
asked_by method (row ∷ rows) = if bytes_eq row.0 method then Some row.1 else asked_by method rows

abbrev pub action_of : Route → List ℕ → Option Action
action_of route method = asked_by method (actions_of route)

-- the methods of rows in order, with `, ` between them
abbrev pub joined_methods : List Row → List ℕ
joined_methods [] = []
joined_methods (row ∷ []) = row.0
joined_methods (row ∷ next ∷ rows) = row.0 ++ codes ", " ++ joined_methods (next ∷ rows)

-- the methods that a route takes
abbrev pub allow_of : Route → List ℕ
allow_of route = joined_methods (actions_of route)
