-- The routes that are still to come lead from the router to the whole one.
use Rattle.std.proofs.Common.{◌≡◌, drop}
use Rattle.vmv_routes.specs.Routes.{inserted, rows}
use Rattle.vmv_routes.proofs.route.router.Given as goal

abbrev pub invariant-loop-route : goal.invariant-loop-route
invariant-loop-route l = inserted (drop l.route-index l.route-items) l.router ≡ rows
