-- The rooms so far.
use Rattle.std.proofs.Common.{◌≡◌, length}
use Rattle.std.specs.List.{All}
use Rattle.vmv_disk.specs.Rooms.{IsRoom}
use Rattle.vmv_disk.proofs.call_log.rooms.Given as goal

abbrev pub invariant-loop : goal.invariant-loop
invariant-loop l = record {
  count : length l.rooms.items ≡ l.counter;
  empty : All (IsRoom l.size) l.rooms.items;
}
