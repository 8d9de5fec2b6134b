use Rattle.std.proofs.Common.{length, ◌+◌, ◌-◌}
use Rattle.vmv_forward.specs.Rows.{AreMarkedBy}
use Rattle.vmv_forward.proofs.Flagging.{FoundUpto}
use Rattle.vmv_forward.proofs.row.+mark_listed.Given as goal

abbrev pub decreases-mark_listed : goal.decreases-mark_listed
decreases-mark_listed l = length l.instances.now - l.number

abbrev pub invariant-loop-c : goal.invariant-loop-c
invariant-loop-c l = AreMarkedBy (λ i. FoundUpto l.instances l.instance l.proc.0 l.c (i + 1)) l.fn.marks l.marks
