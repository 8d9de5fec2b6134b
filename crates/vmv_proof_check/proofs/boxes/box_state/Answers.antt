use Rattle.std.proofs.Common.{rules, arith, ◌+◌, length, ap, subst, get_or, ℤ, pos, neg_ℤ}
use Rattle.vmv_zone.specs.Zone.{ChangesBound}
use Rattle.vmv_proof_check.proofs.Boxing.{boxing_more, boxing_end, range_at, read_range}
use Rattle.vmv_proof_check.proofs.boxes.box_state.Goals as goal

abbrev none : ℤ × ℤ
none = (pos 0, pos 0)

pub loop-i-preserved : goal.loop-i-preserved
loop-i-preserved c =
    let i = c.loop-i.i in
    let range = get_or c.ranges-ranges.result.now c.loop-i.i none in
    let e = c.with_range-zone.ensures in
    let read = read_range range (search rules) (search rules) in
    boxing_more c.args.within.now c.ranges-ranges.result.now c.loop-i.i range c.loop-i.zone e.0 c.with_range-zone.result c.ranges-ranges.ensures c.loop-i-test.true (range_at c.ranges-ranges.result.now c.loop-i.i none c.loop-i-test.true)
    c.loop-i.invariant (subst (λ (b : ℤ). ChangesBound c.loop-i.zone e.0 (i + 1) 0 b) read.1 e.1) (subst (λ (b : ℤ). ChangesBound e.0 c.with_range-zone.result 0 (i + 1) (neg_ℤ b)) read.0 e.2)

pub returns : goal.returns
returns c =
    let low = c.loop-i-test.false in
    let same = ap length c.ranges-ranges.ensures in
    boxing_end c.args.within.now c.loop-i.i c.loop-i.zone (omega (arith, low, same)) c.loop-i.invariant
