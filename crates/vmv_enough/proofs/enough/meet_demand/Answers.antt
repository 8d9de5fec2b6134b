use Rattle.std.proofs.Common.{subst}
use Rattle.vmv_cond.specs.Cond.{IsMeet}
use Rattle.vmv_enough.proofs.enough.meet_demand.Goals as goal

pub returns-clause-met : goal.returns-clause-met
returns-clause-met c = record {
  met = c.meet-met.result;
  meet = subst (λ x. IsMeet x c.args.demand.now.cond c.meet-met.result) c.get.ensures c.meet-met.ensures;
  set = c.set.ensures.conds (c.set.ensures.held.1 c.requires);
}
