use Rattle.std.proofs.Common.{◌≡◌}
use Rattle.vmv_check.proofs.Lists.{Upto}
use Rattle.vmv_check.proofs.sites.lists.Given as goal

abbrev pub invariant-loop-other : goal.invariant-loop-other
invariant-loop-other l = Upto (λ x. x ≡ l.site → ⊥) l.other-items l.other-index
