use Rattle.std.proofs.Common.{inl, inr, refl}
use Rattle.vmv_step.specs.Steps.{stepped}
use Rattle.vmv_check.proofs.walk.Walker.walk_simple.Goals as goal

pub returns-then-not-allows_step-clause-way : goal.returns-then-not-allows_step-clause-way
returns-then-not-allows_step-clause-way c k =
    (stepped c.step_in_place-unproved.new.zone c.step_in_place-unproved.result, c.step_in_place-unproved.ensures.stepped, inr (λ p. let t = (c.if-not-allows_step.ensures c.step_in_place-unproved.new.zone).1 p in absurd (cc), refl))

pub returns-clause-way : goal.returns-clause-way
returns-clause-way c k =
    (stepped c.step_in_place-unproved.new.zone c.step_in_place-unproved.result, c.step_in_place-unproved.ensures.stepped, inl ((c.if-not-allows_step.ensures c.step_in_place-unproved.new.zone).0 refl, refl))
