-- What was read stands behind the bytes that were there.
use Rattle.std.proofs.Common.{◌≡◌, ◌≤◌, ◌-◌, length, take}
use Rattle.vmv_request_reading.proofs.Adding.{FilledTo}
use Rattle.vmv_request_reading.proofs.filling.fill.Given as goal

abbrev pub invariant-loop-at : goal.invariant-loop-at
invariant-loop-at g l = record {
  same : length l.room ≡ length l.initial.room;
  within : l.at ≤ length l.room;
  read : FilledTo (g.L.Link.input l.initial.link) (g.L.Link.input l.link) (take l.have l.initial.room) l.at l.room;
  stands : g.L.Link.fault_count l.link ≡ g.L.Link.fault_count l.initial.link;
  kept : g.L.Link.written l.link ≡ g.L.Link.written l.initial.link;
}

abbrev pub decreases-loop-at : goal.decreases-loop-at
decreases-loop-at g l = length l.room - l.at
