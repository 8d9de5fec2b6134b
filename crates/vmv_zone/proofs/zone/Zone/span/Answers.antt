use Rattle.std.proofs.Common.{arith}
use Rattle.std.proofs.lemmas.Int.{ints}
use Rattle.vmv_zone.proofs.Operands.{confines_span}
use Rattle.vmv_zone.proofs.zone.Zone.span.Goals as goal

pub returns : goal.returns
returns c = confines_span c.args.left c.args.right c.args.lo c.args.hi _ _ (omega (arith, ints)) (omega (arith, ints)) c.limit.ensures c.limit-2.ensures
