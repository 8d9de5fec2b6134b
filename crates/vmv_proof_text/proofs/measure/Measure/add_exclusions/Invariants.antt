use Rattle.std.proofs.Common.{◌≡◌, ◌+◌, [], drop, length}
use Rattle.std.specs.List.{flat_map}
use Rattle.vmv_proof_text.specs.Lengths.{capped}
use Rattle.vmv_proof_text.specs.Parts.{parts_of_exclusion}
use Rattle.vmv_proof_text.specs.Text.{parts_text}
use Rattle.vmv_proof_text.proofs.measure.Measure.add_exclusions.Given as goal

abbrev pub invariant-loop-exclusion : goal.invariant-loop-exclusion
invariant-loop-exclusion l =
    (l.self.lines.items ≡ [])
    × (capped (l.self.total + length (parts_text (flat_map parts_of_exclusion (drop l.exclusion-index l.exclusions)))) ≡ capped (l.fn.self.total + length (parts_text (flat_map parts_of_exclusion l.exclusions))))
