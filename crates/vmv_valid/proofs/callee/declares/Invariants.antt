use Rattle.std.proofs.Common.{◌≡◌, drop}
use Rattle.vmv_valid.specs.Callees.{declares}
use Rattle.vmv_valid.proofs.callee.declares.Given as goal

abbrev pub invariant-loop-callee : goal.invariant-loop-callee
invariant-loop-callee l = declares (drop l.callee-index l.callees) l.name ≡ declares l.callees l.name
