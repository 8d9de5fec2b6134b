use Rattle.std.proofs.Common.{◌∷◌}
use Rattle.std.proofs.lemmas.Bool.{iff_false}
use Rattle.vmv_proof_line.proofs.LooseLoops.{second_number, no_follow}
use Rattle.vmv_proof_line.proofs.loose_states.next_bound_loosely.Goals as goal

pub returns-in_default-clause-none : goal.returns-in_default-clause-none
returns-in_default-clause-none c = λ b rest h e. c.in_default.ensures.none b.0 (b.1 ∷ b.2 ∷ rest) h.0.first e

pub returns-in_default-next_number-clause-none : goal.returns-in_default-next_number-clause-none
returns-in_default-next_number-clause-none c = λ b rest h e.
    let one = second_number c.args.words.now c.next_number.new.self c.in-Some.next_i.now c.in-Some.ensures.some.1 b.0 (b.1 ∷ b.2 ∷ rest) e in
    c.in_default-next_number.ensures.none b.1 (b.2 ∷ rest) h.0.second one.1

pub returns-in_default-next_number-2-clause-none : goal.returns-in_default-next_number-2-clause-none
returns-in_default-next_number-2-clause-none c = λ b rest h e.
    let one = second_number c.args.words.now c.next_number.new.self c.in-Some.next_i.now c.in-Some.ensures.some.1 b.0 (b.1 ∷ b.2 ∷ rest) e in
    let two = second_number c.next_number.new.self c.next_number-2.new.self c.in-Some-next_number.next_j.now c.in-Some-next_number.ensures.some.1 b.1 (b.2 ∷ rest) one.1 in
    c.in_default-next_number-2.ensures.none b.2 rest h.0.bound two.1

pub returns-then-not-may_follow-clause-none : goal.returns-then-not-may_follow-clause-none
returns-then-not-may_follow-clause-none c =
    no_follow (c.args.i.now, c.args.j.now) c.args.words.now c.next_number.new.self c.next_number-2.new.self c.in-Some.next_i.now c.in-Some-next_number.next_j.now c.in-Some.ensures.some.1 c.in-Some-next_number.ensures.some.1
    (iff_false c.may_follow.ensures c.if-not-may_follow.true)
