use Rattle.std.proofs.Common.{◌≡◌, ℕ, ℤ, Option, Some, List, length, slice_get}
use Rattle.vmv_need.specs.Thresholds.{AreThresholdsAt}
use Rattle.vmv_need.proofs.gather.all_thresholds.Given as goal

abbrev pub invariant-loop-number : goal.invariant-loop-number
invariant-loop-number l =
    (length l.list.items ≡ l.number) × ((n : ℕ) (found : Option (List ℤ)) → slice_get l.list.items n ≡ Some found → AreThresholdsAt l.base l.ends n found)
