use Rattle.vmv_routes.proofs.Finding.{no_route, route_found}
use Rattle.vmv_routes.proofs.route.route_of.Goals as goal

pub returns-in_default : goal.returns-in_default
returns-in_default c = no_route c.args.path.now c.in_default.ensures.cases.0

pub returns : goal.returns
returns c = route_found c.args.path.now c.in-Ok.path.now _ _ c.in-Ok.ensures.cases.0 c.in-Ok.ensures.cases.1 c.in-Ok-router.ensures c.found_in.ensures
