-- The router that finds the endpoint of a target.
use Rattle.std.specs.Prelude.{◌≡◌, ◌<◌, ◌++◌, ◌∷◌, [], ℕ, List, length, Option, Some, None, option_map, Result, Ok, Err}
use Rattle.std.specs.List.{AllByRecursion}
use Rattle.matchit.specs.Order.{placed}
use Rattle.matchit.specs.Route.{Scan, parse_route}
use Rattle.matchit.specs.Router.{RouteOf, nearest}
use Rattle.matchit.specs.Rows.{RowsOf, param_token, catch_all_token}
use Rattle.matchit.specs.Seek.{first, slash}
use Rattle.matchit.specs.declared.error.InsertError.{InsertError}
use Rattle.tape_routes.specs.declared.routes.Endpoint.{Endpoint}
use Rattle.tape_routes.specs.Routes.{Pattern, Fixed, Named, Below, route_of, endpoint_of}

-- a pattern as a router has it: bytes, one parameter for a name, and one for all that goes on below
abbrev pub tokens : Pattern → List ℕ
tokens (Fixed text) = text
tokens (Named before after) = before ++ param_token ∷ after
tokens (Below text) = text ++ slash ∷ catch_all_token ∷ []

-- how many parameters a pattern has
abbrev pub parameter_count : Pattern → ℕ
parameter_count (Fixed text) = 0
parameter_count (Named before after) = 1
parameter_count (Below text) = 1

-- the pattern that a router reads and how many parameters it names, if it takes the text
abbrev pub pattern_read : Result Scan InsertError → Option (List ℕ × ℕ)
pattern_read (Ok s) = Some (s.pattern, length s.names)
pattern_read (Err e) = None

-- a router reads this text as the pattern of the endpoint's route
abbrev pub IsTextOf : Endpoint → List ℕ → Type 0
IsTextOf e text = pattern_read (parse_route text) ≡ Some (tokens (route_of e).pattern, parameter_count (route_of e).pattern)

-- the endpoint of a route of a router, its pattern, and how many parameters it names
abbrev pub route_view : RouteOf Endpoint → Endpoint × List ℕ × ℕ
route_view r = (r.value, r.pattern, length r.names)

-- the same of the table
abbrev pub table_view : Endpoint → Endpoint × List ℕ × ℕ
table_view e = (e, tokens (route_of e).pattern, parameter_count (route_of e).pattern)

-- no route of these rows conflicts with the route of this endpoint
abbrev pub StandsApart : Endpoint → RowsOf (RouteOf Endpoint) → Type 0
StandsApart e rows = nearest (tokens (route_of e).pattern) rows ≡ None

-- the rows have one more, the route of this endpoint
abbrev pub HasOneMore : Endpoint → RowsOf (RouteOf Endpoint) → RowsOf (RouteOf Endpoint) → Type 0
HasOneMore e old new = (r : RouteOf Endpoint) × (route_view r ≡ table_view e) × (new ≡ placed (r.pattern, r) old)

-- the router finds for each target the route of the endpoint that has it, and nothing for a target of no route
abbrev pub FindsRoutes : RowsOf (RouteOf Endpoint) → Type 0
FindsRoutes rows =
    (target : List ℕ) → AllByRecursion (λ b. b < 256) target
    → option_map route_view (first rows target) ≡ option_map table_view (endpoint_of target)
