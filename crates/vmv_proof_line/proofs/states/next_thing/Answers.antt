use Rattle.std.proofs.Common.{arith, ap, ◌∙◌, ◌∷◌}
use Rattle.vmv_proof_line.proofs.Climbing.{same_number}
use Rattle.vmv_proof_line.proofs.states.next_thing.Goals as goal

pub returns-then-number-vars : goal.returns-then-number-vars
returns-then-number-vars c = λ x word words h e.
    let t = c.in-Some.ensures in
    let r = same_number c.args.words.now c.next_natural.new.self words t.0 c.in-Some.number x t.1 t.2 (omega (arith, h.0, c.ranges.vars.fits)) (e ∙ ap (λ w. w ∷ words) h.1) in
    omega (arith, r.0, h.0, c.if-number-vars.true)
