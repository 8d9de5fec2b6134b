use Rattle.std.proofs.Common.{◌≡◌, ℕ, List, [], subst}
use Rattle.std.specs.Prelude.{IfOk}
use Rattle.vmv_request.specs.Replies.{reply_status}
use Rattle.vmv_request.specs.Answers.{answer_text}
use Rattle.vmv_request.proofs.answers.reply_text.Goals as goal

pub returns : goal.returns
returns c =
    let P : ℕ → Type 0 = λ s. IfOk c.answer_text.result (λ text. text ≡ answer_text s [] c.in_ok-body.body) in
    let Q : List ℕ → Type 0 = λ b. IfOk c.answer_text.result (λ text. text ≡ answer_text (reply_status c.args.reply.now) [] b) in
    subst Q c.in_ok-body.ensures (subst P c.reply_status.ensures c.answer_text.ensures)
