use Rattle.std.proofs.Common.{◌≡◌, ℕ, ◌<◌, false, get_or, length}
use Rattle.vmv_zone.proofs.order.copy_marks.Given as goal

abbrev pub invariant-loop-i : goal.invariant-loop-i
invariant-loop-i l = record {
  full : length l.marks ≡ 18;
  done : (k : ℕ) → k < l.i → get_or l.marks k false ≡ get_or l.others k false;
}
