use Rattle.std.proofs.Common.{◌≡◌, ◌++◌, drop}
use Rattle.std.specs.List.{flat_map}
use Rattle.vmv_proof_text.specs.Parts.{parts_of_exclusion}
use Rattle.vmv_proof_text.specs.Text.{parts_text}
use Rattle.vmv_proof_text.proofs.write.push_exclusions.Given as goal

abbrev pub invariant-loop-exclusion : goal.invariant-loop-exclusion
invariant-loop-exclusion l =
    l.out.items ++ parts_text (flat_map parts_of_exclusion (drop l.exclusion-index l.exclusions)) ≡ l.fn.out.items ++ parts_text (flat_map parts_of_exclusion l.exclusions)
