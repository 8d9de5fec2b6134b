use Rattle.std.proofs.Common.{◌≡◌, length, take}
use Rattle.vmv_back.specs.Boxes.{full_box}
use Rattle.vmv_back.proofs.full.full_box.Given as goal

abbrev pub invariant-loop-param : goal.invariant-loop-param
invariant-loop-param l = (l.full ≡ full_box (take l.param-index l.params)) × (length l.full ≡ l.param-index)
