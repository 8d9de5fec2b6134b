use Rattle.std.proofs.Common.{◌∙◌, ap, refl, reverse}
use Rattle.vmv_lower.specs.Machine.{produced, state_of}
use Rattle.vmv_lower.proofs.Stacks.{on_ok, arith_is, operate_made}
use Rattle.vmv_lower.proofs.machine.Machine.operate.Goals as goal

pub returns : goal.returns
returns c =
    let left = c.in-Some-pop.left in
    let right = c.in-Some.right in
    let new = c.pop-2.new.self.items in
    let before = state_of (record c.args.self.now { held = c.pop-2.new.self }) in
    let stmt = arith_is c.in_ok-to.to _ c.args.op left.operand right.operand c.in_ok-to.ensures in
    on_ok c.produce.result _ _
    (λ made. operate_made c.args.to c.args.op c.args.self.now.held.items c.pop.new.self.items new right left (state_of c.args.self.now) before (state_of c.produce.new.self) c.in-Some.ensures.items c.in-Some-pop.ensures.items refl
    (made ∙ ap (λ s. produced s left.depth (reverse new) before) stmt))
    c.produce.ensures
