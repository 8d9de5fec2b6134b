use Rattle.std.proofs.Common.{ap}
use Rattle.vmv_routes.specs.Routes.{all_routes, inserted, rows}
use Rattle.vmv_routes.proofs.Inserting.{inserted_more, inserted_all}
use Rattle.vmv_routes.proofs.route.router.Goals as goal

pub loop-route-init : goal.loop-route-init
unfolding rows
loop-route-init c = ap (inserted all_routes) c.new-router.ensures

pub loop-route-preserved : goal.loop-route-preserved
loop-route-preserved c = inserted_more all_routes _ _ _ _ rows c.loop-route-test.true c.in_ok-add.ensures c.loop-route.invariant

pub returns : goal.returns
returns c = inserted_all all_routes _ _ rows c.loop-route-test.false c.loop-route.invariant
