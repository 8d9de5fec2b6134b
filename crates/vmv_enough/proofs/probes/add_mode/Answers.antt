use Rattle.vmv_assumption.specs.Assumed.{cond_of}
use Rattle.vmv_enough.proofs.Adding.{adds_mode_more, adds_mode_all}
use Rattle.vmv_enough.proofs.probes.add_mode.Goals as goal

pub loop-demand-preserved : goal.loop-demand-preserved
loop-demand-preserved c =
    adds_mode_more (cond_of c.args.enough.now) c.args.demands.now c.args.within.now c.args.mode c.loop-demand.demand-index c.demand-item.result c.args.probes.now c.loop-demand.probes c.add-in-loop-demand.new.probes c.loop-demand-test.true c.demand-item.is
    c.loop-demand.invariant c.in_ok-add-2.ensures

pub returns : goal.returns
returns c = adds_mode_all (cond_of c.args.enough.now) c.args.demands.now c.args.within.now c.args.mode c.loop-demand.demand-index c.args.probes.now c.loop-demand.probes c.loop-demand-test.false c.loop-demand.invariant
