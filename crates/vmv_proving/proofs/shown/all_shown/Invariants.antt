use Rattle.vmv_assumption.specs.Assumed.{cond_of}
use Rattle.vmv_proving.specs.Work.{AreShownBefore}
use Rattle.vmv_proving.proofs.shown.all_shown.Given as goal

abbrev pub invariant-loop-number : goal.invariant-loop-number
invariant-loop-number l = AreShownBefore l.revision l.ends (cond_of l.needed) l.number l.shown
