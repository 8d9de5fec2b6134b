use Rattle.std.proofs.Common.{ℤ, subst}
use Rattle.vmv_zone.specs.Zone.{ChangesBound}
use Rattle.vmv_proof_check.proofs.Boxing.{widened, negated}
use Rattle.vmv_proof_check.proofs.boxes.with_range.Goals as goal

pub returns : goal.returns
returns c = (
  c.with_bound-half.result,
  subst (λ (b : ℤ). ChangesBound c.args.zone c.with_bound-half.result c.args.variable 0 b) (widened c.args.hi c.ranges.hi) c.with_bound-half.ensures,
  subst (λ (b : ℤ). ChangesBound c.with_bound-half.result c.with_bound.result 0 c.args.variable b) (negated c.args.lo c.ranges.lo) c.with_bound.ensures,
)
