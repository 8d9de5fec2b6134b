use Rattle.vmv_snapshot.specs.Resolution.{tree_of}
use Rattle.vmv_thresholds.proofs.Rounding.{ordered_told}
use Rattle.vmv_thresholds.proofs.thresholds.Thresholds.of.Goals as goal

pub returns : goal.returns
returns c =
    ordered_told (tree_of c.args.snapshot.now) c.args.entry.0 c.args.ends.now c.as_slice.result.now c.in_ok-seeds.seeds.items c.as_slice-2.result.now c.in_ok-list.list.items c.put_in_order.new.list.items
    c.as_slice.ensures c.in_ok-seeds.ensures c.as_slice-2.ensures.value c.in_ok-list.ensures c.put_in_order.ensures.rising c.put_in_order.ensures.same
