use Rattle.std.proofs.Common.{◌≡◌, ◌≢◌, arith, length, sym, ◌∙◌, ap, drop}
use Rattle.std.proofs.lemmas.Bool.{eqb-true, eqb-false}
use Rattle.std.proofs.lemmas.List.{nil_from_length}
use Rattle.vmv_text.specs.Tokens.{token_in}
use Rattle.vmv_text.proofs.Unrolled.{front_none, front_some}
use Rattle.vmv_text.proofs.cursor.lexed.Goals as goal

pub returns-then-is_empty : goal.returns-then-is_empty
returns-then-is_empty c =
    let at = c.behind_gap-from.result.now in
    let empty : length at ≡ 0 = eqb-true _ _ (sym c.is_empty.ensures ∙ c.if-is_empty.true) in
    front_none c.args.language c.args.text.now at (sym c.behind_gap-from.ensures.exact) (nil_from_length at empty)

pub returns : goal.returns
returns c =
    let at = c.behind_gap-from.result.now in
    let full : length at ≢ 0 = eqb-false _ _ (sym c.is_empty.ensures ∙ c.if-is_empty.false) in
    front_some c.args.language c.args.text.now at _ _ (sym c.behind_gap-from.ensures.exact) (omega arith) (c.spoken.ensures ∙ ap (λ x. token_in c.args.language x.0 at) c.token_at-token.ensures.exact)
    (c.split_at.ensures.back ∙ ap (λ x. drop x.1 at) c.token_at-token.ensures.exact)
