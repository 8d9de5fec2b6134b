use Rattle.vmv_assumption.specs.Assumed.{cond_of}
use Rattle.vmv_need.specs.declared.shown.ShownBy.{ShownBy}
use Rattle.vmv_need.specs.Vacuous.{IsVacuous, IsShownBy}
use Rattle.vmv_need.proofs.Turns.{cuts_end_necessary}
use Rattle.vmv_need.proofs.Existing.{safe_within, none_is_safe}
use Rattle.vmv_need.proofs.Firsts.{where_some, where_none}
use Rattle.vmv_need.proofs.finding.necessary.Goals as goal

pub returns-in-Some-clause-needed : goal.returns-in-Some-clause-needed
returns-in-Some-clause-needed g c =
    let program = c.args.base.now in
    let scope = c.in_ok-plan.plan.scope in
    let assumed = cond_of c.in_ok-found.found.assumed in
    let shown = where_some (¬ IsVacuous program scope assumed) (λ (s : ShownBy). IsVacuous program scope assumed × IsShownBy program scope assumed s) c.in_ok-shown_by.field-0 c.in-Some.shown_by c.in_ok-shown_by.ensures c.in-Some.is in (
      scope,
      c.in_ok-plan.ensures.scope,
      record {
        assumed = assumed;
        necessary = cuts_end_necessary program scope assumed c.in_ok-found.found.cuts c.in_ok-plan.ensures.is_resolution c.in_ok-found.ensures.cuts;
        vacuous = shown.0;
        shown_by = shown.1;
      },
    )

pub returns-in-Some-clause-safe : goal.returns-in-Some-clause-safe
returns-in-Some-clause-safe g c = λ env covers safe.
    let program = c.args.base.now in
    let scope = c.in_ok-plan.plan.scope in
    let assumed = cond_of c.in_ok-found.found.assumed in
    let shown = where_some (¬ IsVacuous program scope assumed) (λ (s : ShownBy). IsVacuous program scope assumed × IsShownBy program scope assumed s) c.in_ok-shown_by.field-0 c.in-Some.shown_by c.in_ok-shown_by.ensures c.in-Some.is in
    let is = c.in_ok-plan.ensures.is_resolution in
    let necessary = cuts_end_necessary program scope assumed c.in_ok-found.found.cuts is c.in_ok-found.ensures.cuts in
    none_is_safe program scope assumed env is (safe_within program scope assumed env is necessary covers safe) shown.0 covers safe

pub returns-clause-needed : goal.returns-clause-needed
returns-clause-needed g c =
    let program = c.args.base.now in
    let scope = c.in_ok-plan.plan.scope in
    let assumed = cond_of c.in_ok-found.found.assumed in (
      scope,
      c.in_ok-plan.ensures.scope,
      record {
        names = c.in_ok-found.ensures.names;
        necessary = cuts_end_necessary program scope assumed c.in_ok-found.found.cuts c.in_ok-plan.ensures.is_resolution c.in_ok-found.ensures.cuts;
        cuts_are = c.in_ok-found.ensures.cuts;
        not_vacuous = where_none (¬ IsVacuous program scope assumed) (λ (s : ShownBy). IsVacuous program scope assumed × IsShownBy program scope assumed s) c.in_ok-shown_by.field-0 c.in_ok-shown_by.ensures c.in-None.is;
      },
    )

pub returns-clause-safe : goal.returns-clause-safe
returns-clause-safe g c = λ env covers safe.
    let program = c.args.base.now in
    let scope = c.in_ok-plan.plan.scope in
    let assumed = cond_of c.in_ok-found.found.assumed in
    let is = c.in_ok-plan.ensures.is_resolution in
    let necessary = cuts_end_necessary program scope assumed c.in_ok-found.found.cuts is c.in_ok-found.ensures.cuts in
    safe_within program scope assumed env is necessary covers safe
