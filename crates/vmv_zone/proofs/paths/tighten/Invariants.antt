use Rattle.std.proofs.Common.{◌≤◌}
use Rattle.vmv_zone.specs.Bounds.{IsTight, IsMarkedIn, IsOffZero}
use Rattle.vmv_zone.proofs.Turns.{Turned}
use Rattle.vmv_zone.proofs.paths.tighten.Given as goal

abbrev pub invariant-loop-i : goal.invariant-loop-i
invariant-loop-i l = Turned (λ bs i. 1 ≤ i → IsMarkedIn l.marks i → IsOffZero bs i) l.change (λ n. IsTight n l.marks l.vars) l.vars l.initial.bounds l.bounds l.i
