use Rattle.vmv_demands.proofs.Found.{one_demand}
use Rattle.vmv_demands.proofs.kept.all_demands.Goals as goal

pub loop-found-preserved : goal.loop-found-preserved
loop-found-preserved c =
    one_demand c.args.wanted.now c.loop-found.demands c.push.new.self c.loop-found.found-index c.found-item.result c.demand_of.result c.loop-found-test.true c.found-item.is c.loop-found.invariant
    c.demand_of.ensures c.in_ok-push.ensures.ok
