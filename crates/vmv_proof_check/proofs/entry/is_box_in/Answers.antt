use Rattle.std.proofs.Common.{ℤ, pos, ◌≤ℤ◌, get_or, refl, arith}
use Rattle.std.proofs.lemmas.Slice.Zip.{AllZip-long}
use Rattle.vmv_tree.specs.declared.tree.Param.{Param}
use Rattle.vmv_check.proofs.Lists.{within}
use Rattle.vmv_proof_check.proofs.Boxing.{range_at}
use Rattle.vmv_proof_check.proofs.Lists.{zip_of, zip_at, item_got, agree_more}
use Rattle.vmv_proof_check.proofs.entry.is_box_in.Goals as goal

abbrev none : ℤ × ℤ
none = (pos 0, pos 0)

abbrev IsIn : Param → ℤ × ℤ → Type 0
IsIn p range = (p.lo ≤ℤ range.0) × (range.0 ≤ℤ range.1) × (range.1 ≤ℤ p.hi)

pub returns-then-params-ranges : goal.returns-then-params-ranges
returns-then-params-ranges c = (λ t. absurd (cc), λ h. let e = AllZip-long IsIn c.args.params.now c.args.ranges.now h in absurd (omega (arith, c.if-params-ranges.true, e)))

pub loop-i-preserved : goal.loop-i-preserved
loop-i-preserved c =
    agree_more IsIn c.args.params.now c.args.ranges.now c.loop-i.i c.index-params-i.result (get_or c.args.ranges.now c.loop-i.i none) (item_got c.args.params.now c.loop-i.i c.index-params-i.result c.loop-i-test.true c.index-params-i.is)
    (range_at c.args.ranges.now c.loop-i.i none (omega (arith, c.loop-i-test.true, c.if-params-ranges.false))) (c.if-not-is_range_in.ensures.0 refl) c.loop-i.invariant

pub returns-then-not-is_range_in : goal.returns-then-not-is_range_in
returns-then-not-is_range_in c = (
  λ t. absurd (cc),
  λ h.
      let t = c.if-not-is_range_in.ensures.1 (zip_at IsIn c.args.params.now c.args.ranges.now c.loop-i.i c.index-params-i.result (get_or c.args.ranges.now c.loop-i.i none) h (item_got c.args.params.now c.loop-i.i c.index-params-i.result c.loop-i-test.true c.index-params-i.is)
      (range_at c.args.ranges.now c.loop-i.i none (omega (arith, c.loop-i-test.true, c.if-params-ranges.false)))) in
      absurd (cc),
)

pub returns : goal.returns
returns c = (
  λ t. zip_of IsIn c.args.params.now c.args.ranges.now c.if-params-ranges.false (λ k p range at bt. c.loop-i.invariant k p range (let h = within c.args.params.now k p at in omega (arith, h, c.loop-i-test.false)) at bt),
  λ h. refl,
)
