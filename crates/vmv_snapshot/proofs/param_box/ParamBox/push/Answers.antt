use Rattle.std.proofs.Common.{◌<◌, arith}
use Rattle.vmv_snapshot.proofs.RangeLists.{padded_push, room_left}
use Rattle.vmv_snapshot.proofs.param_box.ParamBox.push.Goals as goal

pub invariant_of-self : goal.invariant_of-self
invariant_of-self c =
    let small : c.self.inside.len < 16 = room_left c.self.inside.ranges c.args.self.now c.self.inside.len c.self.invariant.0 c.self.invariant.1 c.self.view_is c.requires in
    (omega arith, padded_push c.self.inside.ranges c.self.inside.len _ small c.self.invariant.1)
