use Rattle.std.proofs.Common.{◌+◌}
use Rattle.vmv_forward.specs.Rows.{AreMarkedBy, IsOwn}
use Rattle.vmv_forward.proofs.Flagging.{Upto}
use Rattle.vmv_forward.proofs.row.mark_own.Given as goal

abbrev pub invariant-loop-before : goal.invariant-loop-before
invariant-loop-before l = AreMarkedBy (Upto (λ i. IsOwn l.instance l.proc.0 (i + 1)) l.before) l.fn.marks l.marks
