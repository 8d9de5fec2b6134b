use Rattle.std.proofs.Common.{◌≡◌}
use Rattle.vmv_assumption.specs.Assumed.{names_of}
use Rattle.vmv_condition_trials.proofs.given.set_all.Given as goal

abbrev pub invariant-loop-line : goal.invariant-loop-line
invariant-loop-line l = names_of l.assumed ≡ names_of l.fn.assumed
