use Rattle.std.proofs.Common.{◌≡◌, ℕ, nat_lt, nat_le, ◌&&◌, length}
use Rattle.vmv_back.specs.Facts.{slots_of}
use Rattle.vmv_back.proofs.fixed.parameters.Given as goal

abbrev pub invariant-loop-slot : goal.invariant-loop-slot
invariant-loop-slot l = (length l.slots ≡ 256) × ((x : ℕ) → slots_of l.slots x ≡ (nat_lt 0 x && nat_le x l.slot))
