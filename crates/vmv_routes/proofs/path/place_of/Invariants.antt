use Rattle.vmv_routes.proofs.Cutting.{HasPassed}
use Rattle.vmv_routes.proofs.path.place_of.Given as goal

abbrev pub invariant-loop-i : goal.invariant-loop-i
invariant-loop-i l = HasPassed l.stop l.bytes l.i
