use Rattle.std.proofs.Common.{arith, to_z, of_z}
use Rattle.std.specs.Int.{w64}
use Rattle.std.proofs.lemmas.Int.{ints}
use Rattle.vmv_step.proofs.Told.{head_told}
use Rattle.vmv_step.proofs.StepOrder.{head_normal}
use Rattle.vmv_zone.proofs.MoreLaws.{assign_normal}
use Rattle.vmv_step.specs.Steps.{stepped}
use Rattle.vmv_step.specs.Loops.{IsHead}
use Rattle.vmv_step.proofs.repeat.head_in_place.Goals as goal

pub store-requires-2-clause-normal : goal.store-requires-2-clause-normal
store-requires-2-clause-normal c = assign_normal _ _ _ _ c.requires.slot.0 c.store.ensures

pub returns : goal.returns
returns c =
    let told : IsHead c.args.repeat.now.index c.args.repeat.now.slot c.args.repeat.now.bound c.args.repeat.now.cap c.args.zone.now (stepped c.store-2.new.self c.bound_unproved-unproved.result) =
    head_told c.args.repeat.now.index c.args.repeat.now.slot c.args.repeat.now.bound c.args.repeat.now.cap (to_z w64 (of_z w64 c.args.repeat.now.cap)) c.args.zone.now c.hold.new.self c.store.new.self c.store-2.new.self
    c.bound_unproved-unproved.result c.zone_operand-bound.result c.at_most.result c.zone_operand-bound.ensures c.hold.ensures c.at_most.ensures
    c.store.ensures c.store-2.ensures c.bound_unproved-unproved.ensures (omega (arith, ints)) in
    let normal = head_normal c.args.repeat.now.index c.args.repeat.now.slot c.args.repeat.now.bound c.args.repeat.now.cap c.args.zone.now _ c.requires.index c.requires.slot told in
    record { head = told; normal = normal.0; vars = normal.1 }
