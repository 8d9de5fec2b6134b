use Rattle.std.proofs.Common.{arith, rules}
use Rattle.vmv_zone.proofs.Lines.{blanked_none, blanked_more, blanked_done}
use Rattle.vmv_zone.proofs.tables.blank_bounds.Goals as goal

pub loop-place-init : goal.loop-place-init
loop-place-init c = blanked_none _ (search rules)

pub loop-place-preserved : goal.loop-place-preserved
loop-place-preserved c = blanked_more _ _ _ (omega (arith, c.requires.few)) c.loop-place.invariant

pub returns-clause-zeros : goal.returns-clause-zeros
returns-clause-zeros c = blanked_done _ _ c.args.vars c.loop-place.place (omega arith) (search rules) c.requires.outside c.loop-place.invariant
