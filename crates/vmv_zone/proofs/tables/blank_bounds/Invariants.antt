use Rattle.vmv_zone.proofs.Lines.{Blanked}
use Rattle.vmv_zone.proofs.tables.blank_bounds.Given as goal

abbrev pub invariant-loop-place : goal.invariant-loop-place
invariant-loop-place l = Blanked l.initial.bounds l.bounds l.place
