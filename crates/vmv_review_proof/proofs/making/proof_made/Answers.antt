use Rattle.std.proofs.Common.{sym, subst, ◌∙◌}
use Rattle.vmv_snapshot.specs.Resolution.{Resolution}
use Rattle.vmv_demands.specs.Ends.{AreEnds}
use Rattle.vmv_review_proof.proofs.making.proof_made.Goals as goal

pub proof_by-requires-clause-needed : goal.proof_by-requires-clause-needed
proof_by-requires-clause-needed c = sym c.needed.ensures.needed ∙ c.in-Conditions.is

pub proof_by-requires-clause-ends : goal.proof_by-requires-clause-ends
proof_by-requires-clause-ends c = subst (λ (b : Resolution). AreEnds b c.in_ok-ends-in-Conditions.ends) c.base.ensures.base c.in_ok-ends-in-Conditions.ensures
