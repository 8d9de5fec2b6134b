use Rattle.std.proofs.Common.{◌≡◌, ℕ, List, subst}
use Rattle.std.specs.Prelude.{IfOk}
use Rattle.std.specs.String.{string_bytes}
use Rattle.vmv_request.proofs.Joining.{head_with}
use Rattle.vmv_request.proofs.answers.answer_head.Goals as goal

pub returns : goal.returns
returns c =
    let P : List ℕ → Type 0 = λ p. IfOk c.format.result (λ text. string_bytes text ≡ head_with c.args.status p c.args.more.now c.args.len) in
    subst P c.phrase-phrase.ensures c.format.ensures.ok
