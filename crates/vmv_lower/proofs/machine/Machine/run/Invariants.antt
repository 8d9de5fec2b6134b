use Rattle.std.proofs.Common.{◌≡◌, drop}
use Rattle.vmv_lower.specs.Machine.{state_of, run}
use Rattle.vmv_lower.proofs.machine.Machine.run.Given as goal

abbrev pub invariant-loop-step : goal.invariant-loop-step
invariant-loop-step l = run (drop l.step-index l.steps) (state_of l.self) ≡ run l.steps (state_of l.initial.self)
