-- What a request asks of the desk, or the first cause for which it is refused.
use Rattle.std.specs.Prelude.{ℕ, ◌==◌, Bool, List, Option, Some, None, Result, Ok, Err, codes, nat_eq, if◌then◌else◌}
use Rattle.std.specs.Option.{option_map, option_and_then}
use Rattle.std.specs.Cmp.Lexicographic.{pointwise}
use Rattle.vmv_keeper.specs.declared.act.Act.TheVariants.{Withdraw, Accept, Waive}
use Rattle.vmv_keeper.specs.declared.act.Query.TheVariants.{ReportOf, Base, History, Pending}
use Rattle.vmv_keeper.specs.declared.act.Command.{Command}
use Rattle.vmv_keeper.specs.declared.act.Command.TheVariants as command
use Rattle.vmv_head.specs.Refusals.{method_name}
use Rattle.vmv_head.specs.declared.refusal.Method.{Method}
use Rattle.vmv_head.specs.declared.refusal.Refusal.{Refusal}
use Rattle.vmv_head.specs.declared.refusal.Refusal.TheVariants.{NoRoute, OtherMethod, MemberUnread, PartUnread, BodyUnread}
use Rattle.vmv_routes.specs.declared.route.Route.{Route}
use Rattle.vmv_routes.specs.declared.route.Route.TheVariants as route
use Rattle.vmv_routes.specs.declared.aim.Draft.{Draft}
use Rattle.vmv_routes.specs.declared.aim.Draft.TheVariants.{Open, AddMember, Submit, Whole}
use Rattle.vmv_routes.specs.declared.aim.Aim.{Aim}
use Rattle.vmv_routes.specs.declared.aim.Aim.TheVariants.{Change, Ask}
use Rattle.vmv_routes.specs.Paths.{path_of, label_in, project_in, submission_in}
use Rattle.vmv_routes.specs.Routes.{route_of, method_of}
use Rattle.vmv_routes.specs.Fields.{value_of, label_at, act_of}

-- what a path asks for, by its route, where its parts can be read
abbrev pub aim_of : Route → List ℕ → Option Aim
aim_of route.Projects path = Some (Change Open)
aim_of route.Members path = option_map (λ p. Change (AddMember p.owner p.project)) (project_in path)
aim_of route.Submissions path = option_map (λ p. Change (Submit p.owner p.project)) (project_in path)
aim_of route.Withdraw path = option_map (λ s. Change (Whole (Withdraw s.owner s.project s.submission))) (submission_in path)
aim_of route.Accept path = option_map (λ s. Change (Whole (Accept s.owner s.project s.submission))) (submission_in path)
aim_of route.Waive path = option_map (λ s. Change (Whole (Waive s.owner s.project s.submission))) (submission_in path)
aim_of route.Report path = option_map (λ s. Ask (ReportOf s.owner s.project s.submission)) (submission_in path)
aim_of route.Base path = option_map (λ p. Ask (Base p.owner p.project)) (project_in path)
aim_of route.History path = option_map (λ p. Ask (History p.owner p.project)) (project_in path)
aim_of route.Pending path = option_map (λ p. Ask (Pending p.owner p.project)) (project_in path)

-- a change under the body's id
abbrev pub change_of : Draft → (caller body : List ℕ) → Option Command
change_of draft caller body =
    option_and_then (λ value. option_and_then (λ id. option_map (command.Change caller id) (act_of draft value)) (label_at (codes "id") value)) (value_of body)

-- the refusal, where there is no value, and else what follows from it
abbrev pub or_refused : {A : Type 0} → Refusal → (A → Result Command Refusal) → Option A → Result Command Refusal
or_refused refusal next None = Err refusal
or_refused refusal next (Some value) = next value

-- the command, where the body has the route's fields; a question reads no body
abbrev pub asked_with : (caller body : List ℕ) → Aim → Result Command Refusal
asked_with caller body (Ask query) = Ok (command.Ask caller query)
asked_with caller body (Change draft) = or_refused BodyUnread Ok (change_of draft caller body)

-- this route's method, exactly
abbrev pub is_method : List ℕ → Method → Bool
is_method called method = pointwise nat_eq called (method_name method)

-- the caller, where just one X-Member line stands in the head, and its value is a label
abbrev pub caller_of : (members : ℕ) (member : List ℕ) → Option (List ℕ)
caller_of members member = if members == 1 then label_in member else None

-- what is asked for at a route
abbrev pub asked_at : (called path : List ℕ) (members : ℕ) (member body : List ℕ) → Route → Result Command Refusal
asked_at called path members member body r =
    if is_method called (method_of r)
    then or_refused MemberUnread (λ caller. or_refused PartUnread (asked_with caller body) (aim_of r path)) (caller_of members member)
    else Err (OtherMethod (method_of r))

-- what a request asks for, by its method, its target, how many X-Member lines it has, the value of the first, and its body
abbrev pub asked_of : (called target : List ℕ) (members : ℕ) (member body : List ℕ) → Result Command Refusal
asked_of called target members member body =
    or_refused NoRoute (asked_at called (path_of target) members member body) (route_of (path_of target))
