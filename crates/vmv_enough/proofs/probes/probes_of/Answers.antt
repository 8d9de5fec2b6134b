use Rattle.vmv_assumption.specs.Assumed.{cond_of}
use Rattle.vmv_enough.proofs.Adding.{probes_are, adds_along}
use Rattle.vmv_enough.proofs.probes.probes_of.Goals as goal

pub returns : goal.returns
returns c =
    probes_are c.args.revision.now c.args.entry.0 (cond_of c.args.enough.now) c.in_ok-boxes.boxes c.in_ok-demands.demands c.new-probes.result c.add_boxes.new.probes c.in_ok-boxes.ensures c.in_ok-demands.ensures c.new-probes.ensures
    (adds_along (cond_of c.args.enough.now) _ c.in_ok-boxes.boxes _ c.in_ok-demands.demands c.new-probes.result c.add_boxes.new.probes c.as_slice-2.ensures c.as_slice.ensures c.in_ok-add_boxes.ensures)
