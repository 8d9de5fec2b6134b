use Rattle.std.proofs.Common.{arith, rules, FitsSigned, ◌*◌, ◌+◌}
use Rattle.std.specs.Int.{w128}
use Rattle.std.proofs.lemmas.Int.{ints}
use Rattle.vmv_zone.specs.Bounds.{bound_at}
use Rattle.vmv_zone.proofs.Rounding.{least_as, reach_as}
use Rattle.vmv_zone.proofs.round.rounded_at.Goals as goal

pub returns : goal.returns
returns c =
    let reach = c.requires.reach (18 * c.args.i + c.args.j) in
    let low = reach.low in
    let high = reach.high in
    let fits : FitsSigned w128 c.least_from.result = search rules in
    let fits' : FitsSigned w128 (bound_at c.args.bounds.now c.args.i c.args.j) = omega (arith, ints) in
    record {
      inside = λ h. least_as c.args.thresholds.now _ (bound_at c.args.bounds.now c.args.i c.args.j) c.least_from.result _ c.least_from.ensures.least (omega (arith, ints)) (omega (arith, ints));
      outside = λ h. absurd (omega arith);
      reach = reach_as c.least_from.result _ c.least_from.ensures.reach (omega (arith, ints));
    }
