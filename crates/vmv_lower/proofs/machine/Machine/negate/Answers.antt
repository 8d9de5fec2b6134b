use Rattle.std.proofs.Common.{◌∙◌, ap, refl, reverse, pos}
use Rattle.vmv_tree.specs.declared.tree.Op.TheVariants.{Sub}
use Rattle.vmv_tree.specs.declared.tree.Operand.TheVariants.{Lit}
use Rattle.vmv_lower.specs.Machine.{produced, state_of}
use Rattle.vmv_lower.proofs.Stacks.{on_ok, arith_is, negate_made}
use Rattle.vmv_lower.proofs.machine.Machine.negate.Goals as goal

pub returns : goal.returns
returns c =
    let inner = c.in-Some.inner in
    let new = c.pop.new.self.items in
    let before = state_of (record c.args.self.now { held = c.pop.new.self }) in
    let stmt = arith_is c.in_ok-to.to _ Sub (Lit (pos 0)) inner.operand c.in_ok-to.ensures in
    on_ok c.produce.result _ _
    (λ made. negate_made c.args.to c.args.self.now.held.items new inner (state_of c.args.self.now) before (state_of c.produce.new.self) c.in-Some.ensures.items refl
    (made ∙ ap (λ s. produced s inner.depth (reverse new) before) stmt))
    c.produce.ensures
