use Rattle.vmv_enough.proofs.Narrower.{not_narrower, narrower_if}
use Rattle.vmv_enough.proofs.open.is_narrower.Goals as goal

pub returns-then-is_empty : goal.returns-then-is_empty
returns-then-is_empty c = not_narrower c.args.had c.args.wanted c.meet-met.result c.meet-met.ensures (c.is_empty.ensures.empty.0 c.if-is_empty.true)

pub returns : goal.returns
returns c =
    narrower_if c.args.had c.args.wanted c.meet-met.result c.is_same_cond.result c.meet-met.ensures (λ h. let t = c.is_empty.ensures.empty.1 h in let f = c.if-is_empty.false in absurd (cc)) c.is_same_cond.ensures
