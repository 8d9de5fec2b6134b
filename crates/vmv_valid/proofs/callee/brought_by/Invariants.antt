use Rattle.std.proofs.Common.{◌≡◌, drop}
use Rattle.vmv_valid.specs.Callees.{brought_by}
use Rattle.vmv_valid.proofs.callee.brought_by.Given as goal

abbrev pub invariant-loop-callee : goal.invariant-loop-callee
invariant-loop-callee l = brought_by (drop l.callee-index l.callees) l.name ≡ brought_by l.callees l.name
