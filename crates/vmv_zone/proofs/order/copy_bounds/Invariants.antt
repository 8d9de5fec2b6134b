use Rattle.std.proofs.Common.{◌≡◌, ℕ, ◌<◌, ◌≤◌, pos, get_or, length}
use Rattle.vmv_zone.proofs.order.copy_bounds.Given as goal

abbrev pub invariant-loop-place : goal.invariant-loop-place
invariant-loop-place l = record {
  full : length l.bounds ≡ 324;
  done : (k : ℕ) → k < l.place → get_or l.bounds k (pos 0) ≡ get_or l.others k (pos 0);
  rest : (k : ℕ) → l.place ≤ k → get_or l.bounds k (pos 0) ≡ get_or l.initial.bounds k (pos 0);
}
