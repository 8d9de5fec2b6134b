use Rattle.std.proofs.Common.{◌≡◌}
use Rattle.vmv_zone.specs.Bounds.{top_bound}
use Rattle.vmv_zone.specs.Lines.{RowFilled}
use Rattle.vmv_zone.proofs.tables.top_row.Given as goal

abbrev pub invariant-loop-j : goal.invariant-loop-j
invariant-loop-j l = RowFilled (λ j b. b ≡ top_bound l.i j) l.initial.bounds l.bounds l.i l.j
