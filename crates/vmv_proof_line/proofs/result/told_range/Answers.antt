use Rattle.std.proofs.Common.{rules}
use Rattle.std.specs.Fmt.{signed_decimal}
use Rattle.vmv_proof_line.proofs.Reaches.{end_dot, told_ends, not_ordered}
use Rattle.vmv_proof_line.proofs.result.told_range.Goals as goal

pub returns-in_default : goal.returns-in_default
returns-in_default c = λ r k. c.in_default.ensures.none (signed_decimal r.0) (signed_decimal r.1) (end_dot r.0 k.0.low) k.1

pub returns-in_default-end_of : goal.returns-in_default-end_of
returns-in_default-end_of c =
    let split = c.in-Some.ensures.some in
    λ r k. c.in_default-end_of.ensures r.0 (told_ends r c.args.word.now c.in-Some.low.now c.in-Some.high.now split.0 split.1 k).0

pub returns-in_default-end_of-2 : goal.returns-in_default-end_of-2
returns-in_default-end_of-2 c =
    let split = c.in-Some.ensures.some in
    λ r k. c.in_default-end_of-2.ensures r.1 (told_ends r c.args.word.now c.in-Some.low.now c.in-Some.high.now split.0 split.1 k).1

pub returns-then-lo-hi : goal.returns-then-lo-hi
returns-then-lo-hi c =
    let split = c.in-Some.ensures.some in
    λ r k. not_ordered r c.args.word.now c.in-Some.low.now c.in-Some.high.now c.in-Some-end_of.lo c.in-Some-end_of-2.hi split.0 split.1 c.in-Some-end_of.ensures c.in-Some-end_of-2.ensures (let less = c.if-lo-hi.true in search (rules)) k
