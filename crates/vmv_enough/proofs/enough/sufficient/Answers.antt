use Rattle.std.proofs.Common.{◌∙◌, sym, ap}
use Rattle.std.proofs.lemmas.Bool.{false≢true}
use Rattle.vmv_assumption.specs.Assumed.{names_of, cond_of}
use Rattle.vmv_enough.proofs.Tightened.{tightened_start, tightened_more, tightened_less, enough_found, none_found, are_safe}
use Rattle.vmv_enough.proofs.enough.sufficient.Goals as goal

pub returns-then-is_proved-clause-sufficient : goal.returns-then-is_proved-clause-sufficient
returns-then-is_proved-clause-sufficient g c =
    enough_found c.args.base.now c.in_ok-plan.plan.ends (cond_of c.args.needed.now) (cond_of c.tightening.assumed) c.tightening.taken c.in_ok-plan.ensures.ends c.tightening.invariant.0 (c.is_proved.ensures.0 c.if-is_proved.true)

pub returns-then-is_proved-clause-safe : goal.returns-then-is_proved-clause-safe
returns-then-is_proved-clause-safe g c =
    are_safe c.args.base.now c.in_ok-plan.plan.ends (cond_of c.tightening.assumed) c.proved_programs_are_safe.ensures c.program.ensures.resolution (c.is_proved.ensures.0 c.if-is_proved.true)

pub returns-in-None-clause-sufficient : goal.returns-in-None-clause-sufficient
returns-in-None-clause-sufficient g c =
    none_found c.args.base.now c.in_ok-plan.plan.ends (cond_of c.args.needed.now) (cond_of c.tightening.assumed) (cond_of c.tighten.new.assumed) c.tightening.taken c.in_ok-plan.ensures.ends c.tightening.invariant.0
    (λ p. false≢true (sym c.if-is_proved.false ∙ c.is_proved.ensures.1 p)) c.in-None.ensures.none

pub tightening-preserved : goal.tightening-preserved
tightening-preserved g c = (
  tightened_more c.args.base.now c.in_ok-plan.plan.ends (cond_of c.args.needed.now) (cond_of c.tightening.assumed) (cond_of c.tighten.new.assumed) c.tightening.taken c.in-Some.more c.tightening.invariant.0
      (λ p. false≢true (sym c.if-is_proved.false ∙ c.is_proved.ensures.1 p)) c.in-Some.ensures.some,
  c.tighten.ensures.names ∙ c.tightening.invariant.1,
)

pub tightening-smaller : goal.tightening-smaller
tightening-smaller g c =
    tightened_less c.args.base.now c.in_ok-plan.plan.ends (cond_of c.args.needed.now) (cond_of c.tightening.assumed) (cond_of c.tighten.new.assumed) c.tightening.taken c.in-Some.more c.tightening.invariant.0 c.in-Some.ensures.some

pub tightening-init : goal.tightening-init
tightening-init g c = (
  tightened_start c.args.base.now c.in_ok-plan.plan.ends (cond_of c.args.needed.now) (cond_of c.in_ok-assumed.assumed) (ap cond_of c.in_ok-assumed.ensures) c.requires.nonempty,
  ap names_of c.in_ok-assumed.ensures ∙ c.requires.names,
)
