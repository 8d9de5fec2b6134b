-- The places so far are free.
use Rattle.std.proofs.Common.{◌≡◌, [], ◌∷◌}
use Rattle.std.specs.List.{range_with_len}
use Rattle.std.specs.Vec.{vec_len}
use Rattle.vmv_desk.proofs.queue.Queue.make.Given as goal

abbrev pub invariant-loop-place : goal.invariant-loop-place
invariant-loop-place l = record {
  places : vec_len l.numbers ≡ l.place;
  size : l.links.size ≡ 32;
  lists : l.links.lists ≡ [] ∷ range_with_len 0 l.place ∷ [];
}
