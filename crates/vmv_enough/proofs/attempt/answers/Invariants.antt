use Rattle.std.proofs.Common.{take}
use Rattle.vmv_assumption.specs.Assumed.{cond_of}
use Rattle.vmv_enough.specs.Tried.{AreAnswers}
use Rattle.vmv_enough.proofs.attempt.answers.Given as goal

abbrev pub invariant-loop-name : goal.invariant-loop-name
invariant-loop-name l = AreAnswers (cond_of l.enough) l.probe (take l.name-index l.names) l.values.items
