use Rattle.std.proofs.Common.{◌≡◌, ◌+◌, [], drop, length}
use Rattle.std.specs.List.{flat_map}
use Rattle.vmv_proof_text.specs.Lengths.{capped}
use Rattle.vmv_proof_text.specs.Parts.{parts_of_row}
use Rattle.vmv_proof_text.specs.Text.{parts_text}
use Rattle.vmv_proof_text.proofs.measure.Measure.add_rows.Given as goal

abbrev pub invariant-loop-row : goal.invariant-loop-row
invariant-loop-row l =
    (l.self.lines.items ≡ [])
    × (capped (l.self.total + length (parts_text (flat_map parts_of_row (drop l.row-index l.rows)))) ≡ capped (l.fn.self.total + length (parts_text (flat_map parts_of_row l.rows))))
