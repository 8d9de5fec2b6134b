use Rattle.std.proofs.Common.{◌≡◌}
use Rattle.vmv_check.proofs.Lists.{Upto}
use Rattle.vmv_report.proofs.proving.shown_for.Given as goal

abbrev pub invariant-loop-own : goal.invariant-loop-own
invariant-loop-own l = Upto (λ own. own.entry ≡ l.name → ⊥) l.shown l.own-index
