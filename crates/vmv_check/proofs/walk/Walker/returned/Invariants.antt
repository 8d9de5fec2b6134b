use Rattle.std.proofs.Common.{take}
use Rattle.vmv_check.specs.Walker.{walk_of}
use Rattle.vmv_check.proofs.Match.{Found}
use Rattle.vmv_check.proofs.walk.Walker.returned.Given as goal

abbrev pub invariant-loop-row : goal.invariant-loop-row
invariant-loop-row l = Found (walk_of l.self) l.callee.0 l.args (take l.row-index l.self.rows.now) l.found
