-- The numbers of the places that the walk has passed are there, and it has come to the next one.
use Rattle.std.proofs.Common.{◌≡◌, ◌<◌, IfSome, take, drop, map}
use Rattle.vmv_links.specs.Lists.{list_at, first_of}
use Rattle.vmv_desk.specs.Queues.{number_at}
use Rattle.vmv_desk.proofs.places.waiting.Given as goal

abbrev pub invariant-loop-step : goal.invariant-loop-step
invariant-loop-step l = record {
  here : l.at ≡ first_of (drop l._step (list_at l.links.lists 0));
  below : IfSome l.at (λ place. place < 32);
  seen : l.all.items ≡ map (number_at l.numbers) (take l._step (list_at l.links.lists 0));
}
