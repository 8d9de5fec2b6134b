use Rattle.std.proofs.Common.{◌≡◌, length}
use Rattle.vmv_zone.specs.Bounds.{bound_at, IsClosed, IsTight, weight}
use Rattle.vmv_zone.specs.Change.{Settles}
use Rattle.vmv_zone.proofs.paths.settle_closed.Given as goal

abbrev pub invariant-loop-bounds : goal.invariant-loop-bounds
invariant-loop-bounds l = record {
  full : length l.bounds ≡ 324;
  closed : IsClosed (bound_at l.bounds) l.vars;
  settles : Settles (λ n. IsTight n l.marks l.vars) l.vars l.initial.bounds l.bounds;
}

abbrev pub decreases-loop-bounds : goal.decreases-loop-bounds
decreases-loop-bounds l = weight l.bounds
