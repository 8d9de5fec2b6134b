use Rattle.vmv_zone.specs.Args.{IsArgBound}
use Rattle.vmv_zone.specs.Lines.{RowFilled}
use Rattle.vmv_zone.proofs.args.fill_row.Given as goal

abbrev pub invariant-loop-j : goal.invariant-loop-j
invariant-loop-j l = RowFilled (λ j b. IsArgBound l.before l.args l.i j b) l.initial.bounds l.bounds l.i l.j
