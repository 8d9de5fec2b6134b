use Rattle.std.proofs.Common.{sym, ◌∙◌}
use Rattle.std.proofs.lemmas.Bool.{false≢true}
use Rattle.vmv_assumption.specs.Assumed.{cond_of}
use Rattle.vmv_demands.specs.declared.demand.Demand.{Demand}
use Rattle.vmv_enough.specs.OpenBy.{IsOpenBy}
use Rattle.vmv_enough.proofs.Lists.{before_more, before_all}
use Rattle.vmv_enough.proofs.open.first_of.Goals as goal

pub loop-demand-preserved : goal.loop-demand-preserved
loop-demand-preserved c =
    before_more (λ (d : Demand). IsOpenBy c.args.base.now c.args.sites.now (cond_of c.args.assumed.now) d → ⊥) c.args.demands.now c.loop-demand.demand-index c.demand-item.result c.loop-demand-test.true c.demand-item.is c.loop-demand.invariant
    (λ h. false≢true (sym c.if-is_open.false ∙ c.is_open.ensures.1 h))

pub returns-clause-none : goal.returns-clause-none
returns-clause-none c =
    before_all (λ (d : Demand). IsOpenBy c.args.base.now c.args.sites.now (cond_of c.args.assumed.now) d → ⊥) c.args.demands.now c.loop-demand.demand-index c.loop-demand-test.false c.loop-demand.invariant
