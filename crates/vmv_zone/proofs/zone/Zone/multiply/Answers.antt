use Rattle.std.proofs.Common.{arith}
use Rattle.std.proofs.lemmas.Int.{ints}
use Rattle.vmv_zone.proofs.Values.{product_of}
use Rattle.vmv_zone.proofs.zone.Zone.multiply.Goals as goal

pub returns : goal.returns
returns c = product_of c.args.self.now c.args.fresh c.args.left c.args.right c.nonzero-x_marked.result c.nonzero-y_marked.result c.products-all.result.lo c.products-all.result.hi _ _ _ _ _ _
    c.span.ensures c.make_nonzero_where.ensures c.nonzero-x_marked.ensures c.nonzero-y_marked.ensures c.products-all.ensures (omega (arith, ints)) (omega (arith, ints))
    c.ends-x.ensures.lo c.ends-x.ensures.hi c.ends-y.ensures.lo c.ends-y.ensures.hi
