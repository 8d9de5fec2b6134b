-- What is written so far are the first bytes of the piece, no write was a fault, and nothing was read.
use Rattle.std.proofs.Common.{◌≡◌, ◌≤◌, ◌-◌, length, take}
use Rattle.vmv_edge.specs.Outside.{Appended}
use Rattle.vmv_edge.proofs.link.send_all.Given as goal

abbrev pub invariant-loop-from : goal.invariant-loop-from
invariant-loop-from g l =
    (l.from ≤ length l.piece)
    × Appended (g.L.Link.written l.initial.link) (take l.from l.piece) (g.L.Link.written l.link)
    × (g.L.Link.fault_count l.link ≡ g.L.Link.fault_count l.initial.link)
    × (g.L.Link.input l.link ≡ g.L.Link.input l.initial.link)

abbrev pub decreases-loop-from : goal.decreases-loop-from
decreases-loop-from g l = length l.piece - l.from
