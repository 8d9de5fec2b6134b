use Rattle.std.proofs.Common.{length}
use Rattle.vmv_surface_text.specs.Opening.{At}
use Rattle.vmv_surface_text.proofs.expr.expression.Given as goal

abbrev pub invariant-reading : goal.invariant-reading
invariant-reading l = At l.place l.fn.cursor l.reader l.cursor

abbrev pub decreases-reading : goal.decreases-reading
decreases-reading l = length l.cursor
