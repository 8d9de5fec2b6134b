use Rattle.std.proofs.Common.{◌≡◌, ◌++◌, drop}
use Rattle.std.specs.List.{flat_map}
use Rattle.vmv_proof_text.specs.Parts.{parts_of_row}
use Rattle.vmv_proof_text.specs.Text.{parts_text}
use Rattle.vmv_proof_text.proofs.tables.push_rows.Given as goal

abbrev pub invariant-loop-row : goal.invariant-loop-row
invariant-loop-row l =
    l.out.items ++ parts_text (flat_map parts_of_row (drop l.row-index l.rows)) ≡ l.fn.out.items ++ parts_text (flat_map parts_of_row l.rows)
