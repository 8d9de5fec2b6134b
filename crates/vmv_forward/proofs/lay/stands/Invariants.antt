use Rattle.vmv_cert.specs.declared.row.Row.{Row}
use Rattle.vmv_check.proofs.Lists.{Upto}
use Rattle.vmv_forward.specs.Least.{IsRowFor}
use Rattle.vmv_forward.proofs.lay.stands.Given as goal

abbrev pub invariant-loop-row : goal.invariant-loop-row
invariant-loop-row l = Upto (λ (row : Row). IsRowFor l.snapshot l.proc.0 l.input row → ⊥) l.rows l.row-index
