use Rattle.std.proofs.Common.{Bool, List, refl, ap}
use Rattle.vmv_step.specs.Steps.{stepped}
use Rattle.vmv_pass.specs.Moves.{lists}
use Rattle.vmv_pass.proofs.walk.pass_simple.Goals as goal

pub returns-clause-moves : goal.returns-clause-moves
returns-clause-moves c k n keeps inputs raised looped steps =
    (stepped c.step_in_place-flag.new.zone c.step_in_place-flag.result, c.step_in_place-flag.ensures.stepped, refl, ap (λ (fs : List Bool). lists keeps inputs fs raised looped steps) c.flag_site.ensures)
