use Rattle.vmv_snapshot.specs.declared.code.Simple.TheVariants.{Set}
use Rattle.vmv_zone.specs.Zone.{vars_of}
use Rattle.vmv_zone.proofs.MoreLaws.{assign_normal}
use Rattle.vmv_step.specs.Steps.{IsSimpleInside}
use Rattle.vmv_step.proofs.Normed.{arith_target, ask_target}
use Rattle.vmv_step.proofs.simple.step_in_place.Goals as goal

pub returns-in-Set-clause-normal : goal.returns-in-Set-clause-normal
returns-in-Set-clause-normal c =
    let inside : IsSimpleInside (vars_of c.args.zone.now) (Set c.in-Set.to c.in-Set.from) = rw c.in-Set.is at c.requires.inside in
    assign_normal _ _ _ _ inside.0.0 c.set.ensures

pub returns-in-Arith-clause-normal : goal.returns-in-Arith-clause-normal
returns-in-Arith-clause-normal c = assign_normal _ _ _ _ (arith_target _ _ _ _ _ _ _ c.in-Arith.is c.requires.inside) c.compute.ensures.zone

pub returns-in-Ask-clause-normal : goal.returns-in-Ask-clause-normal
returns-in-Ask-clause-normal c = assign_normal _ _ _ _ (ask_target _ _ _ _ _ c.in-Ask.is c.requires.inside) c.ask.ensures
