use Rattle.std.proofs.Common.{◌≡◌, drop}
use Rattle.vmv_tree.specs.View.{block_of}
use Rattle.vmv_valid.specs.Measures.{measured_after, measured_all}
use Rattle.vmv_valid.proofs.measure.+measure.Given as goal

-- what is measured so far, with the rest, is the whole
abbrev pub invariant-measured_all-loop-stmt : goal.invariant-measured_all-loop-stmt
invariant-measured_all-loop-stmt l =
    measured_after l.callees l.all (block_of (drop l.stmt-index l.block)) ≡ measured_all l.callees (block_of l.block)
