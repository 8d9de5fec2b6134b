use Rattle.std.proofs.Common.{arith, ◌<◌, ◌∙◌, length-set}
use Rattle.vmv_zone.proofs.Arguments.{marked_more, marked_inside}
use Rattle.vmv_zone.proofs.args.fill_marks.Goals as goal

pub loop-i-preserved : goal.loop-i-preserved
loop-i-preserved c =
    let inside : c.loop-i.i < 18 = omega (arith, c.requires.few, c.loop-i-test.true) in
    record {
      full = length-set c.loop-i.marks c.loop-i.i c.nonzero.result ∙ c.loop-i.invariant.full;
      done = marked_more c.args.before.now c.args.args.now c.loop-i.marks c.loop-i.i c.argument.result c.nonzero.result c.loop-i.invariant.full inside c.loop-i.invariant.done c.nonzero.ensures c.argument.ensures;
      variables = marked_inside c.loop-i.marks c.loop-i.i c.nonzero.result c.loop-i.invariant.full inside c.loop-i.auto.i c.loop-i.invariant.variables;
    }
