use Rattle.vmv_snapshot.specs.Resolution.{tree_of}
use Rattle.vmv_thresholds.proofs.Ends.{EndsFrom}
use Rattle.vmv_thresholds.proofs.seeds.add_ends.Given as goal

abbrev pub invariant-loop-named : goal.invariant-loop-named
invariant-loop-named l = EndsFrom (tree_of l.snapshot) l.entry.0 l.ends l.fn.seeds.items l.named-index l.seeds.items
