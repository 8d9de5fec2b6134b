use Rattle.std.proofs.Common.{refl, ap}
use Rattle.vmv_proof_text.specs.Parts.{entries_part, end_part, parts_of_exclusion, parts_of_shown}
use Rattle.vmv_proof_text.proofs.Measuring.{adds_list, line_alone, lines_alone, proof_measured}
use Rattle.vmv_proof_text.proofs.measure.proof_length.Goals as goal

pub returns : goal.returns
returns c =
    proof_measured c.args.proof.now 0 c.add.new.self.total c.add_exclusions.new.self.total c.add-2.new.self.total c.add_shown_list.new.self.total c.add-3.new.self.total c.push_exclusions_heading.new.out.items c.push_entries_heading.new.out.items c.push_last.new.out.items refl
    (lines_alone _ _ _ _ _ c.new.ensures.items c.len.ensures c.in_ok-push_opening.ensures c.in_ok-push_exclusions_heading.ensures) c.add.ensures.total (adds_list parts_of_exclusion _ _ c.add.new.self.total c.add_exclusions.new.self.total c.as_slice.ensures c.in_ok-add_exclusions.ensures.1)
    (line_alone _ _ _ _ c.in_ok-add_exclusions.ensures.0 (ap entries_part c.len-2.ensures) c.in_ok-push_entries_heading.ensures) c.add-2.ensures.total (adds_list parts_of_shown _ _ c.add-2.new.self.total c.add_shown_list.new.self.total c.as_slice-2.ensures c.in_ok-add_shown_list.ensures.1)
    (line_alone _ _ end_part end_part c.in_ok-add_shown_list.ensures.0 refl c.in_ok-push_last.ensures) c.add-3.ensures.total
