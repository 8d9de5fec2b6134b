use Rattle.std.proofs.Common.{◌≡◌, ◌++◌, drop, map}
use Rattle.vmv_proof_text.specs.Parts.{keep_part}
use Rattle.vmv_proof_text.specs.Text.{parts_text}
use Rattle.vmv_proof_text.proofs.tables.push_keeps.Given as goal

abbrev pub invariant-loop-zone : goal.invariant-loop-zone
invariant-loop-zone l = l.out.items ++ parts_text (map keep_part (drop l.zone-index l.keeps)) ≡ l.fn.out.items ++ parts_text (map keep_part l.keeps)
