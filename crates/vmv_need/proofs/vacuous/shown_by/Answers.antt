use Rattle.vmv_assumption.specs.Assumed.{cond_of}
use Rattle.vmv_need.proofs.Firsts.{empty_shows, doomed_shows}
use Rattle.vmv_need.proofs.vacuous.shown_by.Goals as goal

pub returns-in-Some : goal.returns-in-Some
returns-in-Some g c = empty_shows c.args.base.now c.args.plan.now.scope (cond_of c.args.assumed.now) _ c.in-Some.name c.outsides.ensures c.in-Some.ensures

pub returns-in_ok-found-in-None : goal.returns-in_ok-found-in-None
returns-in_ok-found-in-None g c = doomed_shows c.args.base.now c.args.plan.now.scope (cond_of c.args.assumed.now) _ c.in_ok-found-in-None.found c.outsides.ensures c.in-None.ensures c.in_ok-found-in-None.ensures
