use Rattle.std.proofs.Common.{◌++◌, ap, ◌∙◌}
use Rattle.vmv_proof_text.proofs.Writing.{push_both}
use Rattle.vmv_proof_text.specs.Parts.{front_parts, back_parts}
use Rattle.vmv_proof_text.specs.Text.{parts_text}
use Rattle.vmv_proof_text.proofs.write.push_proof.Goals as goal

pub returns : goal.returns
returns c =
    push_both (front_parts c.as_slice.result.now) (back_parts c.as_slice-2.result.now) c.args.out.now.items c.push_front.new.out.items c.push_back.new.out.items c.in_ok-push_front.ensures c.in_ok-push_back.ensures
    ∙ (ap (λ xs. c.args.out.now.items ++ parts_text (front_parts xs ++ back_parts c.as_slice-2.result.now)) c.as_slice.ensures
    ∙ ap (λ ys. c.args.out.now.items ++ parts_text (front_parts c.args.proof.now.exclusions ++ back_parts ys)) c.as_slice-2.ensures)
