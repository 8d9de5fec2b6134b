use Rattle.std.proofs.Common.{arith, ap, ◌∙◌, ◌∷◌, []}
use Rattle.vmv_zone.specs.Zone.{vars_of}
use Rattle.vmv_proof_words.proofs.Digits.{count_is_natural}
use Rattle.vmv_proof_line.proofs.Climbing.{same_number}
use Rattle.vmv_proof_line.proofs.states.told_bottom.Goals as goal

pub returns-then-vars-gt16 : goal.returns-then-vars-gt16
returns-then-vars-gt16 c = λ z word h e.
    let t = c.in-Some.ensures in
    let r = same_number c.args.words.now [] [] t.0 c.in-Some.vars (vars_of z) (count_is_natural c.in-Some.vars t.0 t.1) t.2 (omega (arith, h.0)) (e ∙ ap (λ w. w ∷ []) h.2) in
    omega (arith, r.0, h.0, c.if-vars-gt16.true)
