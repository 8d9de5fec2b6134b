use Rattle.vmv_zone.proofs.Guards.{confines_apart}
use Rattle.vmv_zone.proofs.zone.Zone.part.Goals as goal

pub returns : goal.returns
returns c = confines_apart c.args.self.now c.args.left c.args.right _ _ _ _ c.touches-above.ensures c.touches-below.ensures c.is_zero.ensures c.is_zero-2.ensures
    c.make_less_where.ensures c.make_less_where-2.ensures c.make_nonzero_where.ensures c.make_nonzero_where-2.ensures
