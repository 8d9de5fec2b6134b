use Rattle.std.proofs.Common.{◌≡◌}
use Rattle.vmv_zone.specs.Bounds.{top_bound}
use Rattle.vmv_zone.proofs.Filled.{FilledBy}
use Rattle.vmv_zone.proofs.tables.fill_top.Given as goal

abbrev pub invariant-loop-i : goal.invariant-loop-i
invariant-loop-i l = FilledBy (λ i j b. b ≡ top_bound i j) l.vars l.bounds l.i
