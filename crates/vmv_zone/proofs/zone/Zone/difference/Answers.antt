use Rattle.std.proofs.Common.{arith, ◌*◌, ◌+◌}
use Rattle.std.proofs.lemmas.Int.{ints}
use Rattle.vmv_zone.proofs.Operands.{difference_is}
use Rattle.vmv_zone.proofs.zone.Zone.difference.Goals as goal

pub overflow_add-result : goal.overflow_add-result
overflow_add-result c = let r = c.args.self.now.reach (18 * c.thing.result + c.thing-2.result) in let low = r.low in let high = r.high in let e = c.bound.ensures in omega (arith, ints)

pub overflow_sub-result : goal.overflow_sub-result
overflow_sub-result c = let r = c.args.self.now.reach (18 * c.thing.result + c.thing-2.result) in let low = r.low in let high = r.high in let e = c.bound.ensures in omega (arith, ints)

pub returns-clause-value : goal.returns-clause-value
returns-clause-value c = let r = c.args.self.now.reach (18 * c.thing.result + c.thing-2.result) in let low = r.low in let high = r.high in let e = c.bound.ensures in
    difference_is c.args.self.now c.args.left c.args.right _ _ c.bound.result c.shift.result c.shift-2.result _ c.thing.ensures c.thing-2.ensures c.bound.ensures c.shift.ensures c.shift-2.ensures (omega (arith, ints))

pub returns-clause-wide : goal.returns-clause-wide
returns-clause-wide c = let r = c.args.self.now.reach (18 * c.thing.result + c.thing-2.result) in let low = r.low in let high = r.high in let e = c.bound.ensures in
    record { low = omega (arith, ints); high = omega (arith, ints) }
