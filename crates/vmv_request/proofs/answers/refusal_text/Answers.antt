use Rattle.std.proofs.Common.{◌≡◌, ℕ, List, subst, ap, ◌∙◌}
use Rattle.std.specs.Prelude.{IfOk}
use Rattle.serde_json.specs.Written.{compact_text}
use Rattle.vmv_head.specs.Refusals.{refusal_status}
use Rattle.vmv_request.specs.Replies.{cause_data}
use Rattle.vmv_request.specs.Answers.{answer_text, allow_line}
use Rattle.vmv_request.proofs.answers.refusal_text.Goals as goal

pub returns : goal.returns
returns c =
    let P : ℕ → Type 0 = λ s. IfOk c.answer_text.result (λ text. text ≡ answer_text s c.as_str.result.now c.in_ok-body.body) in
    let Q : List ℕ → Type 0 = λ m. IfOk c.answer_text.result (λ text. text ≡ answer_text (refusal_status c.args.refusal) m c.in_ok-body.body) in
    let R : List ℕ → Type 0 = λ b. IfOk c.answer_text.result (λ text. text ≡ answer_text (refusal_status c.args.refusal) (allow_line c.args.refusal) b) in
    subst R (c.in_ok-body.ensures ∙ ap (λ n. compact_text (cause_data n)) c.cause.ensures)
    (subst Q (c.as_str.ensures.value ∙ c.in_ok-line.ensures) (subst P c.status.ensures c.answer_text.ensures))
