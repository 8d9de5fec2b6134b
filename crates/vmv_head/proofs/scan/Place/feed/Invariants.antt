-- The bytes so far have led to this place.
use Rattle.std.proofs.Common.{◌≤◌, ◌-◌, length}
use Rattle.vmv_head.proofs.Moving.{HasFed}
use Rattle.vmv_head.proofs.scan.Place.feed.Given as goal

abbrev pub invariant-loop-i : goal.invariant-loop-i
invariant-loop-i l = record { within : l.i ≤ length l.bytes; fed : HasFed l.initial.self l.bytes l.i l.self }

abbrev pub decreases-loop-i : goal.decreases-loop-i
decreases-loop-i l = length l.bytes - l.i
