use Rattle.std.proofs.Common.{arith}
use Rattle.vmv_proof_line.proofs.StateNaming.{same_thing}
use Rattle.vmv_proof_line.proofs.states.next_mark.Goals as goal

pub returns-then-i-last : goal.returns-then-i-last
returns-then-i-last c = λ m rest h e.
    let t = c.in-Some.ensures in
    let r = same_thing c.args.words.now c.next_thing.new.words rest t.0 c.args.vars c.in-Some.i m c.ranges.vars.fits t.1 t.2 h.1 e in
    omega (arith, r.0, h.0, c.if-i-last.true)
