use Rattle.std.proofs.Common.{arith}
use Rattle.std.proofs.lemmas.Int.{ints}
use Rattle.vmv_zone.proofs.Values.{word_of}
use Rattle.vmv_zone.proofs.zone.Zone.hold_within.Goals as goal

pub returns : goal.returns
returns c = word_of c.args.cond c.args.fresh c.zero_out.result _ _ c.span.ensures c.make_nonzero_where.ensures c.zero_out.ensures.value
    (omega (arith, ints, c.lo.ensures)) (omega (arith, ints, c.hi.ensures))
