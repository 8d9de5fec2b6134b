use Rattle.std.proofs.Common.{length}
use Rattle.vmv_zone.specs.Args.{IsArgBound}
use Rattle.vmv_zone.proofs.Filled.{FilledBy}
use Rattle.vmv_zone.proofs.args.fill_bounds.Given as goal

abbrev pub invariant-loop-i : goal.invariant-loop-i
invariant-loop-i l = FilledBy (λ i j b. IsArgBound l.before l.args i j b) (length l.args) l.bounds l.i
