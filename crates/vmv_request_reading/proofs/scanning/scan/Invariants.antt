-- What was read stands in the front of the room, and has led to a place in no whole head.
use Rattle.std.proofs.Common.{◌≡◌, ◌≤◌, ◌-◌, length, take}
use Rattle.vmv_edge.specs.Outside.{WasRead}
use Rattle.vmv_request_reading.specs.Places.{HasLed}
use Rattle.vmv_request_reading.proofs.scanning.scan.Given as goal

abbrev pub invariant-loop-have : goal.invariant-loop-have
invariant-loop-have g l = record {
  same : length l.room ≡ length l.initial.room;
  within : l.have ≤ length l.room;
  read : WasRead (g.L.Link.input l.initial.link) (take l.have l.room) (g.L.Link.input l.link);
  led : HasLed (take l.have l.room) l.have l.place;
  stands : g.L.Link.fault_count l.link ≡ g.L.Link.fault_count l.initial.link;
  kept : g.L.Link.written l.link ≡ g.L.Link.written l.initial.link;
}

abbrev pub decreases-loop-have : goal.decreases-loop-have
decreases-loop-have g l = length l.room - l.have
