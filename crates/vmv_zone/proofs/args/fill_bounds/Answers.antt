use Rattle.std.proofs.Common.{arith, rules}
use Rattle.vmv_zone.proofs.Filled.{filled_zeros, filled_more, filled_done}
use Rattle.vmv_zone.proofs.args.fill_bounds.Goals as goal

pub loop-i-init : goal.loop-i-init
loop-i-init c = filled_zeros _ _ _ (search rules) c.requires.zeros

pub loop-i-preserved : goal.loop-i-preserved
loop-i-preserved c = filled_more _ _ _ _ _ _ (omega (arith, c.requires.few)) (omega arith) c.loop-i.invariant c.fill_row.ensures

pub returns : goal.returns
returns c = filled_done _ _ _ _ (omega arith) c.loop-i.invariant
