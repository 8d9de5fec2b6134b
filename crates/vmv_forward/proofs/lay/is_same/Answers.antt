use Rattle.std.proofs.Common.{subst}
use Rattle.vmv_zone.specs.declared.zone.Zone.{Zone}
use Rattle.vmv_zone.specs.Zone.{IsBelow}
use Rattle.vmv_zone.proofs.Equal.{below_both}
use Rattle.vmv_forward.proofs.States.{below_same}
use Rattle.vmv_forward.proofs.lay.is_same.Goals as goal

pub returns-then-below : goal.returns-then-below
returns-then-below c = (
  λ t. below_both c.args.one.now c.args.other.now c.requires (c.below.ensures.0 c.if-below.true) (c.below-then-below.ensures.0 t),
  λ e. c.below-then-below.ensures.1 (subst (λ (z : Zone). IsBelow z c.args.one.now) e (below_same c.args.one.now)),
)
