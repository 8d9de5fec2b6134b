-- The routes: the pattern of each, its method, and the one that a path has.
use Rattle.std.specs.Prelude.{ℕ, List, [], ◌∷◌, Option, None, Result, Ok, Err, codes, if◌then◌else◌}
use Rattle.std.specs.Option.{option_map}
use Rattle.std.specs.Str.{is_utf8}
use Rattle.matchit.specs.Rows.{RowsOf}
use Rattle.matchit.specs.Order.{placed}
use Rattle.matchit.specs.Route.{Scan, parse_route}
use Rattle.matchit.specs.Router.{RouteOf, route_from}
use Rattle.matchit.specs.Seek.{first}
use Rattle.matchit.specs.declared.error.InsertError.{InsertError}
use Rattle.vmv_head.specs.declared.refusal.Method.{Method}
use Rattle.vmv_head.specs.declared.refusal.Method.TheVariants.{Get, Post}
use Rattle.vmv_routes.specs.declared.route.Route.{Route}
use Rattle.vmv_routes.specs.declared.route.Route.TheVariants.{Projects, Members, Submissions, Withdraw, Accept, Waive, Report, Base, History, Pending}

abbrev pub pattern_of : Route → List ℕ
pattern_of Projects = codes "/projects"
pattern_of Members = codes "/projects/{owner}/{project}/members"
pattern_of Submissions = codes "/projects/{owner}/{project}/submissions"
pattern_of Withdraw = codes "/projects/{owner}/{project}/submissions/{n}/withdraw"
pattern_of Accept = codes "/projects/{owner}/{project}/submissions/{n}/accept"
pattern_of Waive = codes "/projects/{owner}/{project}/submissions/{n}/waive"
pattern_of Report = codes "/projects/{owner}/{project}/submissions/{n}/report"
pattern_of Base = codes "/projects/{owner}/{project}/base"
pattern_of History = codes "/projects/{owner}/{project}/history"
pattern_of Pending = codes "/projects/{owner}/{project}/pending"

abbrev pub method_of : Route → Method
method_of Projects = Post
method_of Members = Post
method_of Submissions = Post
method_of Withdraw = Post
method_of Accept = Post
method_of Waive = Post
method_of Report = Get
method_of Base = Get
method_of History = Get
method_of Pending = Get

abbrev pub all_routes : List Route
all_routes =
    Projects ∷ Members ∷ Submissions ∷ Withdraw ∷ Accept ∷ Waive ∷ Report ∷ Base ∷ History ∷ Pending ∷ []

-- `matchit`'s rows with a route whose text was read, and with one of this text
abbrev pub put_read : Result Scan InsertError → Route → RowsOf (RouteOf Route) → RowsOf (RouteOf Route)
put_read (Ok read) route rows = placed (read.pattern, route_from read route) rows
put_read (Err refused) route rows = rows

unfoldable pub put : Route → RowsOf (RouteOf Route) → RowsOf (RouteOf Route)
put route rows = put_read (parse_route (pattern_of route)) route rows

-- the rows after these routes, in turn
abbrev pub inserted : List Route → RowsOf (RouteOf Route) → RowsOf (RouteOf Route)
inserted [] rows = rows
inserted (route ∷ rest) rows = inserted rest (put route rows)

-- the router's rows
unfoldable pub rows : RowsOf (RouteOf Route)
rows = inserted all_routes []

-- the route of a path, by the search that `matchit` states; a path that isn't UTF-8 has none
abbrev pub route_of : List ℕ → Option Route
route_of path = if is_utf8 path then option_map (λ found. found.value) (first rows path) else None
