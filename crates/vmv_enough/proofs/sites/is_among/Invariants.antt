use Rattle.std.proofs.Common.{◌≡◌}
use Rattle.vmv_enough.proofs.Lists.{Before}
use Rattle.vmv_enough.proofs.sites.is_among.Given as goal

abbrev pub invariant-loop-other : goal.invariant-loop-other
invariant-loop-other l = Before (λ other. other ≡ l.site → ⊥) l.sites l.other-index
