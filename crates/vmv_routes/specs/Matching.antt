-- Which paths a route has, part by part.
use Rattle.std.specs.Prelude.{◌≡◌, ℕ, ◌<◌, false, List, ◌++◌, length, codes}
use Rattle.matchit.specs.Seek.{has_slash}
use Rattle.vmv_routes.specs.declared.route.Route.{Route}
use Rattle.vmv_routes.specs.declared.route.Route.TheVariants.{Projects, Members, Submissions, Withdraw, Accept, Waive, Report, Base, History, Pending}

-- a part of a path: one byte or more, and no slash
abbrev pub IsPart : List ℕ → Type 0
IsPart part = (0 < length part) × (has_slash part ≡ false)

abbrev pub path_in : (owner project rest : List ℕ) → List ℕ
path_in owner project rest = codes "/projects/" ++ (owner ++ (codes "/" ++ (project ++ rest)))

abbrev pub path_at : (owner project n rest : List ℕ) → List ℕ
path_at owner project n rest = path_in owner project (codes "/submissions/" ++ (n ++ rest))

-- the path that a route's pattern is with these parts in place of its names
abbrev pub path_with : Route → (owner project n : List ℕ) → List ℕ
path_with Projects owner project n = codes "/projects"
path_with Members owner project n = path_in owner project (codes "/members")
path_with Submissions owner project n = path_in owner project (codes "/submissions")
path_with Withdraw owner project n = path_at owner project n (codes "/withdraw")
path_with Accept owner project n = path_at owner project n (codes "/accept")
path_with Waive owner project n = path_at owner project n (codes "/waive")
path_with Report owner project n = path_at owner project n (codes "/report")
path_with Base owner project n = path_in owner project (codes "/base")
path_with History owner project n = path_in owner project (codes "/history")
path_with Pending owner project n = path_in owner project (codes "/pending")

-- a path is the route's, with some parts
abbrev pub IsPathOf : Route → List ℕ → Type 0
IsPathOf route path =
    (owner : List ℕ) × (project : List ℕ) × (n : List ℕ) × IsPart owner × IsPart project × IsPart n × (path ≡ path_with route owner project n)
