use Rattle.std.proofs.Common.{◌≡◌, take}
use Rattle.vmv_lower.specs.Machine.{operands_of}
use Rattle.vmv_lower.proofs.machine.operands_of.Given as goal

abbrev pub invariant-loop-one : goal.invariant-loop-one
invariant-loop-one l = l.args ≡ operands_of (take l.one-index l.held)
