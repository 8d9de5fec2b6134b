use Rattle.vmv_assumption.specs.Assumed.{cond_of}
use Rattle.vmv_enough.proofs.Adding.{adds_box_more, no_boxes, adds_boxes_all}
use Rattle.vmv_enough.proofs.probes.add_boxes.Goals as goal

pub loop-within-init : goal.loop-within-init
loop-within-init c = no_boxes (cond_of c.args.enough.now) c.args.boxes.now c.args.demands.now c.args.probes.now

pub loop-within-preserved : goal.loop-within-preserved
loop-within-preserved c =
    adds_box_more (cond_of c.args.enough.now) c.args.boxes.now c.args.demands.now c.loop-within.within-index c.within-item.result c.args.probes.now c.loop-within.probes c.add_box.new.probes c.loop-within-test.true c.within-item.is c.loop-within.invariant c.in_ok-add_box.ensures

pub returns : goal.returns
returns c = adds_boxes_all (cond_of c.args.enough.now) c.args.boxes.now c.args.demands.now c.loop-within.within-index c.args.probes.now c.loop-within.probes c.loop-within-test.false c.loop-within.invariant
