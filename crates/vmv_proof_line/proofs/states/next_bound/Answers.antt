use Rattle.std.proofs.Common.{arith, refl, subst}
use Rattle.std.specs.Fmt.{signed_decimal}
use Rattle.vmv_proof_line.specs.StateWords.{IsUnderTop}
use Rattle.vmv_proof_line.proofs.StateNaming.{same_things}
use Rattle.vmv_proof_line.proofs.states.next_bound.Goals as goal

pub returns-then-i-j : goal.returns-then-i-j
returns-then-i-j c = λ b rest h e.
    let t = c.in-Some.ensures in
    let u = c.in-Some-next_thing.ensures in
    let r = same_things c.args.words.now c.next_thing.new.words c.next_thing-2.new.words t.0 u.0 c.args.vars c.in-Some.i c.in-Some-next_thing.j c.ranges.vars.fits t.1 t.2 u.1 u.2 b rest h.first h.second e in
    h.other (omega (arith, r.0, r.1, c.if-i-j.true))

pub returns-then-i-j-2 : goal.returns-then-i-j-2
returns-then-i-j-2 c = λ b rest h e.
    let t = c.in-Some.ensures in
    let u = c.in-Some-next_thing.ensures in
    let r = same_things c.args.words.now c.next_thing.new.words c.next_thing-2.new.words t.0 u.0 c.args.vars c.in-Some.i c.in-Some-next_thing.j c.ranges.vars.fits t.1 t.2 u.1 u.2 b rest h.first h.second e in
    omega (arith, r.0, r.1, h.behind, c.if-i-j-2.true)

pub returns-in_default-next_under_top : goal.returns-in_default-next_under_top
returns-in_default-next_under_top c = λ b rest h e.
    let t = c.in-Some.ensures in
    let u = c.in-Some-next_thing.ensures in
    let r = same_things c.args.words.now c.next_thing.new.words c.next_thing-2.new.words t.0 u.0 c.args.vars c.in-Some.i c.in-Some-next_thing.j c.ranges.vars.fits t.1 t.2 u.1 u.2 b rest h.first h.second e in
    c.in_default-next_under_top.ensures b.2 (signed_decimal b.2) rest (subst (λ i. IsUnderTop i c.in-Some-next_thing.j b.2 (signed_decimal b.2)) r.0 (subst (λ j. IsUnderTop b.0 j b.2 (signed_decimal b.2)) r.1 ((h.between, refl), h.high))) r.2
