use Rattle.std.proofs.Common.{◌≡◌}
use Rattle.vmv_check.proofs.Lists.{Upto}
use Rattle.vmv_proof_check.proofs.entry.is_name_among.Given as goal

abbrev pub invariant-loop-other : goal.invariant-loop-other
invariant-loop-other l = Upto (λ x. x ≡ l.name → ⊥) l.names l.other-index
