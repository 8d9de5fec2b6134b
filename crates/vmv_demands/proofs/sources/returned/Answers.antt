use Rattle.vmv_demands.proofs.Standing.{start_returned, moved_returned}
use Rattle.vmv_demands.proofs.sources.returned.Goals as goal

pub returns-in-Start : goal.returns-in-Start
returns-in-Start c = λ before stands want w.
    start_returned before c.args.sources.now stands c.args.args.now c.in-Start.slot c.given.result want c.args.inside.now c.in-Start.is (c.given.ensures before stands want w)

pub returns-in-StartMoved : goal.returns-in-StartMoved
returns-in-StartMoved c = λ before stands want w.
    moved_returned before c.args.sources.now stands c.args.args.now c.in-StartMoved.slot c.given_moved.result want c.args.inside.now c.in-StartMoved.shift c.in-StartMoved.is (c.given_moved.ensures before stands want w)
