use Rattle.std.proofs.Common.{arith, ◌≤ℤ◌, pos, negsuc, to_z, of_z}
use Rattle.std.specs.Int.{w64}
use Rattle.std.proofs.lemmas.Int.{ints, clamps}
use Rattle.vmv_zone.proofs.Words.{le_true, le_false}
use Rattle.vmv_zone.proofs.Hulls.{positive_part, negative_part, both_parts}
use Rattle.vmv_zone.proofs.ends.quotients.Goals as goal

pub returns-then-y-ge0-clause-some : goal.returns-then-y-ge0-clause-some
returns-then-y-ge0-clause-some c =
    let l = le_true (pos 0) (to_z w64 (of_z w64 c.args.y.lo)) c.if-y-ge0.true in
    let h = le_false (to_z w64 (of_z w64 c.args.y.hi)) (pos 0) c.if-y-le0.false in
    let low : pos 0 ≤ℤ c.args.y.lo = omega (arith, ints) in
    let high : pos 1 ≤ℤ c.args.y.hi = omega (arith, ints) in
    positive_part c.args.x.lo c.args.x.hi c.args.y.lo c.args.y.hi _ _ _ _ c.quotients_in.ensures (omega (arith, ints, clamps)) (omega (arith, ints)) low high

pub returns-then-y-le0-2-clause-some : goal.returns-then-y-le0-2-clause-some
returns-then-y-le0-2-clause-some c =
    let l = le_false (pos 0) (to_z w64 (of_z w64 c.args.y.lo)) c.if-y-ge0.false in
    let h = le_true (to_z w64 (of_z w64 c.args.y.hi)) (pos 0) c.if-y-le0-2.true in
    let low : c.args.y.lo ≤ℤ negsuc 0 = omega (arith, ints) in
    let high : c.args.y.hi ≤ℤ pos 0 = omega (arith, ints) in
    negative_part c.args.x.lo c.args.x.hi c.args.y.lo c.args.y.hi _ _ _ _ c.quotients_in-then-y-le0-2.ensures (omega (arith, ints)) (omega (arith, ints, clamps)) low high

pub returns-clause-some : goal.returns-clause-some
returns-clause-some c =
    let l = le_false (pos 0) (to_z w64 (of_z w64 c.args.y.lo)) c.if-y-ge0.false in
    let h = le_false (to_z w64 (of_z w64 c.args.y.hi)) (pos 0) c.if-y-le0-2.false in
    let low : c.args.y.lo ≤ℤ negsuc 0 = omega (arith, ints) in
    let high : pos 1 ≤ℤ c.args.y.hi = omega (arith, ints) in
    both_parts c.args.x.lo c.args.x.hi c.args.y.lo c.args.y.hi _ _ _ _ _ _ _ _ _ _ c.quotients_in-negative.ensures c.quotients_in-positive.ensures c.joined.ensures.lo c.joined.ensures.hi
    (omega (arith, ints)) (omega (arith, ints, clamps)) (omega (arith, ints, clamps)) (omega (arith, ints)) low high
