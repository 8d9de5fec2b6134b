use Rattle.vmv_step.specs.Loops.{IsLeft}
use Rattle.vmv_step.proofs.Told.{up_of, none_of, left_none, left_some}
use Rattle.vmv_step.proofs.repeat.leave_in_place.Goals as goal

pub returns-then-is_bottom : goal.returns-then-is_bottom
returns-then-is_bottom c =
    let left : IsLeft c.args.repeat.now.index c.args.repeat.now.slot c.args.zone.now c.hold.new.self =
    left_none c.args.repeat.now.index c.args.repeat.now.slot c.args.zone.now c.hold.new.self c.at_most.result c.hold.ensures c.at_most.ensures (none_of _ _ c.is_bottom.ensures c.if-is_bottom.true) in
    record { left = left; normal = c.hold.ensures.greatest.normal; vars = c.hold.ensures.greatest.vars }

pub returns : goal.returns
returns c =
    let left : IsLeft c.args.repeat.now.index c.args.repeat.now.slot c.args.zone.now c.forget.new.zone =
    left_some c.args.repeat.now.index c.args.repeat.now.slot c.args.zone.now c.hold.new.self c.forget.new.zone c.at_most.result c.hold.ensures c.at_most.ensures
    (up_of _ _ c.is_bottom.ensures c.if-is_bottom.false) c.forget.ensures.forgotten c.forget.ensures.vars in
    record { left = left; normal = c.forget.ensures.forgotten.norm.normal; vars = left.vars }
