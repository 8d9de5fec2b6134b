use Rattle.std.proofs.Common.{◌≡◌, drop, slice_get}
use Rattle.vmv_tree.specs.View.{items_of}
use Rattle.vmv_snapshot.specs.Procs.{procs}
use Rattle.vmv_step.proofs.entry.declared_of.Given as goal

abbrev pub invariant-loop-item : goal.invariant-loop-item
invariant-loop-item l = slice_get (procs (items_of (drop l.item-index l.items))) l.before ≡ slice_get (procs (items_of l.items)) l.fn.proc.0
