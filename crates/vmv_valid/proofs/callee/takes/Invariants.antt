use Rattle.std.proofs.Common.{◌≡◌, drop}
use Rattle.vmv_valid.specs.Callees.{takes}
use Rattle.vmv_valid.proofs.callee.takes.Given as goal

abbrev pub invariant-loop-callee : goal.invariant-loop-callee
invariant-loop-callee l = takes (drop l.callee-index l.callees) l.name l.count ≡ takes l.callees l.name l.count
