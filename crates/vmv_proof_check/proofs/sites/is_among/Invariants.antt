use Rattle.std.proofs.Common.{◌≡◌}
use Rattle.vmv_check.proofs.Lists.{Upto}
use Rattle.vmv_proof_check.proofs.sites.is_among.Given as goal

abbrev pub invariant-loop-other : goal.invariant-loop-other
invariant-loop-other l = Upto (λ x. x ≡ l.site → ⊥) l.sites l.other-index
