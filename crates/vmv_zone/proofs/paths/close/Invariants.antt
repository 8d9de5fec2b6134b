use Rattle.std.proofs.Common.{◌≡◌, length, ℕ, ◌<◌, ◌≤◌}
use Rattle.vmv_zone.specs.Bounds.{HasPath, IsClosed}
use Rattle.vmv_zone.specs.Change.{Settles}
use Rattle.vmv_zone.proofs.paths.close.Given as goal

abbrev pub invariant-loop-j : goal.invariant-loop-j
invariant-loop-j l = record {
  full : length l.bounds ≡ 324;
  settles : Settles (λ n. IsClosed n l.vars) l.vars l.initial.bounds l.bounds;
  ways : (r : ℕ) → r < l.j → (p q : ℕ) → p ≤ l.vars → q ≤ l.vars → HasPath l.bounds p r q;
}
