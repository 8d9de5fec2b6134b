use Rattle.std.proofs.Common.{refl}
use Rattle.vmv_lower.specs.Machine.{state_of}
use Rattle.vmv_lower.proofs.Stacks.{produce_made}
use Rattle.vmv_lower.proofs.machine.Machine.produce.Goals as goal

pub returns : goal.returns
returns c =
    produce_made c.args.stmt c.args.depth c.in_ok-number.number c.in_ok-name.name c.args.self.now.block c.push.new.self c.args.self.now.held.items c.push-2.new.self.items (state_of c.args.self.now)
    c.in_ok-number.ensures c.in_ok-name.ensures c.in_ok-push.ensures.ok c.in_ok-push-2.ensures.items refl
