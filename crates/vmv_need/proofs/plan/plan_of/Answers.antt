use Rattle.std.proofs.Common.{List, length, sym, subst, ◌<◌, ◌^◌}
use Rattle.vmv_need.specs.declared.candidate.Candidate.{Candidate}
use Rattle.vmv_need.proofs.Fit.{few_candidates}
use Rattle.vmv_need.proofs.plan.plan_of.Goals as goal

pub returns : goal.returns
returns g c = record {
  is_resolution = c.program.ensures.resolution;
  scope = c.in_ok-scope.ensures.scope;
  candidates = c.in_ok-candidates.ensures;
  few = subst (λ (cs : List Candidate). length cs < 2 ^ 32) (sym c.in_ok-candidates.ensures) (few_candidates _ _ c.in_ok-scope.ensures.scope c.in_ok-scope.ensures.few);
  places = c.in_ok-places.ensures;
  thresholds = c.in_ok-thresholds.ensures;
}
