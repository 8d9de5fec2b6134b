use Rattle.std.proofs.Common.{arith, rules, ◌*◌, ◌+◌, sym, FitsSigned}
use Rattle.std.specs.Int.{w64}
use Rattle.vmv_zone.specs.Operand.{shift}
use Rattle.vmv_zone.proofs.Rounding.{reach_as}
use Rattle.vmv_zone.proofs.Arguments.{dif_reach}
use Rattle.std.proofs.lemmas.Int.{ints}
use Rattle.vmv_zone.proofs.Operands.{difference_is}
use Rattle.vmv_zone.proofs.zone.Zone.difference_in_reach.Goals as goal

pub overflow_add-result : goal.overflow_add-result
overflow_add-result c = let r = c.args.self.now.reach (18 * c.thing.result + c.thing-2.result) in let low = r.low in let high = r.high in let e = c.bound.ensures in omega (arith, ints)

pub overflow_sub-result : goal.overflow_sub-result
overflow_sub-result c = let r = c.args.self.now.reach (18 * c.thing.result + c.thing-2.result) in let low = r.low in let high = r.high in let e = c.bound.ensures in omega (arith, ints)

pub returns-clause-value : goal.returns-clause-value
returns-clause-value c = let r = c.args.self.now.reach (18 * c.thing.result + c.thing-2.result) in let low = r.low in let high = r.high in let e = c.bound.ensures in
    difference_is c.args.self.now c.args.left c.args.right _ _ c.bound.result c.shift.result c.shift-2.result _ c.thing.ensures c.thing-2.ensures c.bound.ensures c.shift.ensures c.shift-2.ensures (omega (arith, ints))

pub returns-clause-reach : goal.returns-clause-reach
returns-clause-reach c =
    let r = c.args.self.now.reach (18 * c.thing.result + c.thing-2.result) in let low = r.low in let high = r.high in let e = c.bound.ensures in
    let fl : FitsSigned w64 (shift c.args.left) = rw (sym c.shift.ensures) (search rules) in
    let fr : FitsSigned w64 (shift c.args.right) = rw (sym c.shift-2.ensures) (search rules) in
    let is = difference_is c.args.self.now c.args.left c.args.right _ _ c.bound.result c.shift.result c.shift-2.result _ c.thing.ensures c.thing-2.ensures c.bound.ensures c.shift.ensures c.shift-2.ensures (omega (arith, ints)) in
    reach_as _ _ (dif_reach c.args.self.now c.args.left c.args.right c.requires.normal c.requires.left c.requires.right fl fr) is

pub returns-clause-left : goal.returns-clause-left
returns-clause-left c = rw (sym c.shift.ensures) (search rules)

pub returns-clause-right : goal.returns-clause-right
returns-clause-right c = rw (sym c.shift-2.ensures) (search rules)
