-- The walk has not met the number, and has come to the next place.
use Rattle.std.proofs.Common.{◌≡◌, ◌<◌, IfSome, drop}
use Rattle.vmv_links.specs.Lists.{list_at, first_of}
use Rattle.vmv_desk.specs.Queues.{place_in}
use Rattle.vmv_desk.proofs.places.place_of.Given as goal

abbrev pub invariant-loop-step : goal.invariant-loop-step
invariant-loop-step l = record {
  here : l.at ≡ first_of (drop l._step (list_at l.links.lists 0));
  below : IfSome l.at (λ place. place < 32);
  missed : place_in l.numbers l.number (drop l._step (list_at l.links.lists 0)) ≡ place_in l.numbers l.number (list_at l.links.lists 0);
}
