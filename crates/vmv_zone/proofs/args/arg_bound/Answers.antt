use Rattle.std.proofs.Common.{arith, rules, FitsSigned}
use Rattle.std.specs.Int.{w128}
use Rattle.std.proofs.lemmas.Int.{ints}
use Rattle.vmv_zone.proofs.Rounding.{reach_as}
use Rattle.vmv_zone.proofs.Arguments.{arg_bound_is}
use Rattle.vmv_zone.proofs.args.arg_bound.Goals as goal

pub returns : goal.returns
returns c =
    let fits : FitsSigned w128 c.difference_in_reach.result = search rules in
    record {
      value = arg_bound_is c.args.before.now c.args.args.now c.args.i c.args.j c.argument.result c.argument-2.result c.difference_in_reach.result _ c.requires.normal c.requires.operands c.requires.i c.requires.j
          c.difference_in_reach.ensures.value c.difference_in_reach.ensures.left c.difference_in_reach.ensures.right c.argument.ensures c.argument-2.ensures (omega (arith, ints));
      reach = reach_as c.difference_in_reach.result _ c.difference_in_reach.ensures.reach (omega (arith, ints));
    }
