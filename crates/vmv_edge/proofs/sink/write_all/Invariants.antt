-- What is written so far are the first bytes of the piece, and no write was a fault.
use Rattle.std.proofs.Common.{◌≡◌, ◌≤◌, ◌-◌, length, take}
use Rattle.vmv_edge.specs.Outside.{Appended}
use Rattle.vmv_edge.proofs.sink.write_all.Given as goal

abbrev pub invariant-loop-from : goal.invariant-loop-from
invariant-loop-from g l =
    (l.from ≤ length l.piece)
    × Appended (g.O.Sink.taken l.initial.out) (take l.from l.piece) (g.O.Sink.taken l.out)
    × (g.O.Sink.fault_count l.out ≡ g.O.Sink.fault_count l.initial.out)

abbrev pub decreases-loop-from : goal.decreases-loop-from
decreases-loop-from g l = length l.piece - l.from
