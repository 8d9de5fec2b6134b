use Rattle.std.proofs.Common.{◌≡◌, ◌++◌, drop}
use Rattle.std.specs.List.{flat_map}
use Rattle.vmv_witness.specs.Text.{witness_text}
use Rattle.vmv_report.proofs.row_texts.push_witness_texts.Given as goal

abbrev pub invariant-loop-witness : goal.invariant-loop-witness
invariant-loop-witness l = l.out.items ++ flat_map witness_text (drop l.witness-index l.witnesses) ≡ l.fn.out.items ++ flat_map witness_text l.witnesses
