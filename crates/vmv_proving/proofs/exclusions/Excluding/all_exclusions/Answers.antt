use Rattle.vmv_proving.proofs.Frozen.{at_place, under_few}
use Rattle.vmv_proving.proofs.Telling.{one_told}
use Rattle.vmv_proving.proofs.exclusions.Excluding.all_exclusions.Goals as goal

pub cut_on-requires-clause-to : goal.cut_on-requires-clause-to
cut_on-requires-clause-to c =
    let self = c.args.self.now in
    under_few self.base.now self.ends.now self.cuts.now c.requires.recorded c.loop-cut.cut-index c.cut-item.result (at_place self.cuts.now c.loop-cut.cut-index c.cut-item.result c.loop-cut-test.true c.cut-item.is)

pub loop-cut-preserved : goal.loop-cut-preserved
loop-cut-preserved c =
    let self = c.args.self.now in
    one_told self.base.now self.ends.now self.cuts.now c.requires.recorded c.loop-cut.cut-index c.loop-cut.done c.cut-item.result c.loop-cut.frozen c.cut_on.new.frozen c.loop-cut.exclusions c.push.new.self c.in_ok-one.one
    (at_place self.cuts.now c.loop-cut.cut-index c.cut-item.result c.loop-cut-test.true c.cut-item.is) c.loop-cut.invariant c.cut_on.ensures c.in_ok-one.ensures c.in_ok-push.ensures.ok
