use Rattle.std.proofs.Common.{take}
use Rattle.vmv_forward.specs.Grow.{AreInputs}
use Rattle.vmv_forward.proofs.grow.bottom_inputs.Given as goal

abbrev pub invariant-loop-callee : goal.invariant-loop-callee
invariant-loop-callee l = AreInputs l.snapshot (take l.callee-index l.callees) l.inputs.items
