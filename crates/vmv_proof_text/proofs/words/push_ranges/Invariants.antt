use Rattle.std.proofs.Common.{◌≡◌, ◌++◌, drop}
use Rattle.std.specs.List.{flat_map}
use Rattle.vmv_proof_text.specs.Text.{range_words}
use Rattle.vmv_proof_text.proofs.words.push_ranges.Given as goal

abbrev pub invariant-loop-range : goal.invariant-loop-range
invariant-loop-range l = l.out.items ++ flat_map range_words (drop l.range-index l.ranges) ≡ l.fn.out.items ++ flat_map range_words l.ranges
