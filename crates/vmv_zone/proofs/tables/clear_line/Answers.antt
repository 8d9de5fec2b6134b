use Rattle.std.proofs.Common.{arith, rules, refl, pos}
use Rattle.vmv_zone.proofs.Lines.{line_none, line_more, zero_reach}
use Rattle.vmv_zone.proofs.tables.clear_line.Goals as goal

pub loop-k-init : goal.loop-k-init
loop-k-init c = line_none _ _ _ (search rules) c.requires.reach

pub loop-k-preserved : goal.loop-k-preserved
loop-k-preserved c = line_more (λ i j. pos 0) _ _ _ _ (pos 0) (pos 0) c.requires.last (omega (arith, c.requires.last)) c.loop-k.invariant refl refl zero_reach zero_reach
