use Rattle.std.proofs.Common.{◌≡◌, ◌≤◌, ◌++◌, map}
use Rattle.std.specs.List.{range_with_len}
use Rattle.vmv_tree.specs.View.{items_of}
use Rattle.vmv_sample.specs.Sample.{sample_entry}
use Rattle.vmv_sample.proofs.program.push_entries.Given as goal

abbrev pub invariant-loop-number : goal.invariant-loop-number
invariant-loop-number l =
    (l.more ≤ 2) × (items_of l.items ≡ items_of l.fn.items ++ map (sample_entry l.fn.more) (range_with_len 0 l.number))
