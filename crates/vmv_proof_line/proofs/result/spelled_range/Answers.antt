use Rattle.std.proofs.lemmas.Bool.{iff_false}
use Rattle.vmv_proof_line.proofs.Reaches.{number_dot, loose_ends}
use Rattle.vmv_proof_line.proofs.result.spelled_range.Goals as goal

pub returns-in_default-clause-none : goal.returns-in_default-clause-none
returns-in_default-clause-none c = λ r k. c.in_default.ensures.none r.0 r.1 (number_dot r.0 k.0) k.2

pub returns-then-not-is_number-clause-none : goal.returns-then-not-is_number-clause-none
returns-then-not-is_number-clause-none c =
    let split = c.in-Some.ensures.some in
    λ r k. iff_false c.is_number.ensures c.if-not-is_number.true (loose_ends r c.args.word.now c.in-Some.low.now c.in-Some.high.now split.0 split.1 k).0

pub returns-then-not-is_number-2-clause-none : goal.returns-then-not-is_number-2-clause-none
returns-then-not-is_number-2-clause-none c =
    let split = c.in-Some.ensures.some in
    λ r k. iff_false c.is_number-2.ensures c.if-not-is_number-2.true (loose_ends r c.args.word.now c.in-Some.low.now c.in-Some.high.now split.0 split.1 k).1
