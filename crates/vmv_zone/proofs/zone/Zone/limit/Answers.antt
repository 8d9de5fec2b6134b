use Rattle.std.proofs.Common.{arith}
use Rattle.std.proofs.lemmas.Int.{ints}
use Rattle.vmv_zone.proofs.Confining.{confines_as}
use Rattle.vmv_zone.proofs.Operands.{at_most_iff}
use Rattle.vmv_zone.proofs.zone.Zone.limit.Goals as goal

pub returns : goal.returns
returns c = confines_as
    (λ n same proper. at_most_iff n c.args.left c.args.right _ _ _ c.args.most c.shift.result c.shift-2.result c.thing.ensures c.thing-2.ensures c.shift.ensures c.shift-2.ensures (omega (arith, ints)))
    c.lower.ensures
