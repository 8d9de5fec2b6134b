use Rattle.std.proofs.Common.{inr}
use Rattle.std.proofs.lemmas.Result.{IfOk-weaker}
use Rattle.vmv_command.proofs.review.proved_output.Goals as goal

pub returns-in-Err-TooLarge : goal.returns-in-Err-TooLarge
returns-in-Err-TooLarge g c =
    IfOk-weaker c.too_large.result _ _
    (λ output h. (c.in_ok-judged.judged.report, c.in_ok-judged.ensures.report, inr (c.in_ok-judged.judged.proof, c.in_ok-judged.ensures.proof, inr (c.in-Err-TooLarge.found, (rw c.in-Err-TooLarge.field-0-is at c.in-Err-TooLarge.ensures.over), h.0, h.1))))
    c.too_large.ensures
