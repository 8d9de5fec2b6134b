use Rattle.vmv_snapshot.specs.Resolution.{tree_of}
use Rattle.vmv_thresholds.proofs.Ends.{ends_more, ends_all}
use Rattle.vmv_thresholds.proofs.seeds.add_ends.Goals as goal

pub loop-named-preserved : goal.loop-named-preserved
loop-named-preserved c =
    ends_more (tree_of c.args.snapshot.now) c.args.entry.0 c.args.ends.now c.args.seeds.now.items c.loop-named.named-index c.loop-named.seeds.items c.add_ends_of.new.seeds.items c.named-item.result
    c.loop-named-test.true c.named-item.is c.loop-named.invariant c.in_ok-add_ends_of.ensures

pub returns : goal.returns
returns c =
    ends_all (tree_of c.args.snapshot.now) c.args.entry.0 c.args.ends.now c.args.seeds.now.items c.loop-named.named-index c.loop-named.seeds.items c.loop-named-test.false c.loop-named.invariant
