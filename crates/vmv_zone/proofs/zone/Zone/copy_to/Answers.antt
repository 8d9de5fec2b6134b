use Rattle.std.proofs.Common.{arith}
use Rattle.std.proofs.lemmas.Int.{ints}
use Rattle.vmv_zone.proofs.Values.{copy_of}
use Rattle.vmv_zone.proofs.zone.Zone.copy_to.Goals as goal

pub returns : goal.returns
returns c = copy_of c.args.self.now c.args.fresh c.args.operand c.nonzero-marked.result _ _ c.span.ensures c.make_nonzero_where.ensures c.nonzero-marked.ensures (omega (arith, ints)) (omega (arith, ints))
