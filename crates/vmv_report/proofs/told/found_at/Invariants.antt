use Rattle.std.proofs.Common.{◌≡◌}
use Rattle.vmv_check.proofs.Lists.{Upto}
use Rattle.vmv_report.proofs.told.found_at.Given as goal

abbrev pub invariant-loop-w : goal.invariant-loop-w
invariant-loop-w l = Upto (λ w. w.site ≡ l.site → ⊥) l.found l.w-index
