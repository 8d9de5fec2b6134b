use Rattle.std.proofs.Common.{◌≡◌, ◌++◌, drop}
use Rattle.std.specs.List.{flat_map}
use Rattle.vmv_proof_text.specs.Parts.{parts_of_shown}
use Rattle.vmv_proof_text.specs.Text.{parts_text}
use Rattle.vmv_proof_text.proofs.write.push_shown_list.Given as goal

abbrev pub invariant-loop-entry : goal.invariant-loop-entry
invariant-loop-entry l =
    l.out.items ++ parts_text (flat_map parts_of_shown (drop l.entry-index l.shown)) ≡ l.fn.out.items ++ parts_text (flat_map parts_of_shown l.shown)
