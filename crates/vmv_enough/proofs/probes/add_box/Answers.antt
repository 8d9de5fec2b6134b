use Rattle.vmv_assumption.specs.Assumed.{cond_of}
use Rattle.vmv_enough.proofs.Adding.{adds_box}
use Rattle.vmv_enough.proofs.probes.add_box.Goals as goal

pub returns : goal.returns
returns c =
    adds_box (cond_of c.args.enough.now) c.args.demands.now c.args.within.now c.args.probes.now c.add_mode.new.probes c.add_mode-2.new.probes c.add_mode-3.new.probes c.in_ok-add_mode.ensures c.in_ok-add_mode-2.ensures c.in_ok-add_mode-3.ensures
