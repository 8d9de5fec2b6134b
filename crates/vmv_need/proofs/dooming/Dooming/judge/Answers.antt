use Rattle.std.proofs.Common.{◌↔◌, Bool, IsTrue, sym, subst}
use Rattle.vmv_snapshot.specs.declared.code.ProcId.{ProcId}
use Rattle.vmv_assumption.specs.Assumed.{cond_of}
use Rattle.vmv_cert.specs.Tables.{Box}
use Rattle.vmv_need.specs.Vacuous.{IsDoomed}
use Rattle.vmv_need.proofs.Lists.{at_in, got_at}
use Rattle.vmv_need.proofs.Fit.{place_fits}
use Rattle.vmv_need.proofs.dooming.Dooming.judge.Goals as goal

pub death_of-requires-clause-entry : goal.death_of-requires-clause-entry
death_of-requires-clause-entry c = place_fits _ _ c.requires.planned.scope c.index.result.now (at_in _ _ c.args.place _ c.requires.place c.index.ensures c.requires.planned.places)

pub returns : goal.returns
returns c = λ x at.
    let self = c.args.self.now in
    subst (λ (place : ProcId × Box). IsTrue c.is_some.result ↔ IsDoomed self.base.now self.plan.now.scope (cond_of self.assumed.now) place)
    (got_at _ c.args.place _ x c.requires.place c.index.ensures at)
    (subst (λ (b : Bool). IsTrue b ↔ IsDoomed self.base.now self.plan.now.scope (cond_of self.assumed.now) c.index.result.now) (sym c.is_some.ensures) c.in_ok-death.ensures.dead)
