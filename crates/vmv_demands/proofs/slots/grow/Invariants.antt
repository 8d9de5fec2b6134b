use Rattle.std.proofs.Common.{◌≡◌, length}
use Rattle.vmv_snapshot.specs.declared.code.Slot.{Slot}
use Rattle.vmv_demands.specs.Sources.{held}
use Rattle.vmv_demands.proofs.slots.grow.Given as goal

abbrev pub invariant-loop-k : goal.invariant-loop-k
invariant-loop-k l = (length l.sources ≡ l.k) × ((x : Slot) → held l.sources x ≡ held l.initial.sources x)
