use Rattle.std.proofs.Common.{◌+◌, ◌*◌}
use Rattle.vmv_crew.proofs.parts.+by_halves+fn-by_halves-back+fn-by_halves-front.Given as goal

abbrev pub decreases-by_halves : goal.decreases-by_halves
decreases-by_halves g l = 2 * l.workers

abbrev pub decreases-back : goal.decreases-back
decreases-back g l = 2 * l.others + 1

abbrev pub decreases-front : goal.decreases-front
decreases-front g l = 2 * l.some + 1
