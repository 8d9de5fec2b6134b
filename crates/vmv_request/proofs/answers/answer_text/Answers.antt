use Rattle.std.proofs.Common.{◌≡◌, ◌++◌, ap, ◌∙◌}
use Rattle.std.specs.Vec.{vec_items}
use Rattle.vmv_request.specs.Answers.{answer_head}
use Rattle.vmv_request.proofs.answers.answer_text.Goals as goal

pub returns : goal.returns
returns c =
    c.from_vec.ensures ∙ c.in_ok-extend_from_slice.ensures.items
    ∙ ap (λ l. l ++ c.bytes.result.now) (ap vec_items c.into_bytes-text.ensures.value ∙ c.in_ok-head.ensures)
    ∙ ap (λ l. answer_head c.args.status c.args.more.now c.len.result ++ l) c.bytes.ensures
    ∙ ap (λ n. answer_head c.args.status c.args.more.now n ++ c.args.body.now) c.len.ensures
