use Rattle.std.proofs.Common.{take, drop}
use Rattle.vmv_tree.specs.View.{items_of, program_of}
use Rattle.vmv_snapshot.proofs.Build.{Built}
use Rattle.vmv_snapshot.proofs.resolve.resolve.Given as goal

abbrev pub invariant-loop-item : goal.invariant-loop-item
invariant-loop-item l = Built (program_of l.program) (items_of (take l.item-index l.item-items)) (items_of (drop l.item-index l.item-items)) l.tables
