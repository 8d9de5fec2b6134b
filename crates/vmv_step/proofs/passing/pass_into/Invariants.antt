use Rattle.std.proofs.Common.{◌≡◌, length, take}
use Rattle.vmv_step.specs.Zones.{zone_args}
use Rattle.vmv_step.proofs.passing.pass_into.Given as goal

abbrev pub invariant-loop-i : goal.invariant-loop-i
invariant-loop-i l = record {
  full : length l.operands ≡ 16;
  done : take l.i l.operands ≡ zone_args (take l.i l.args);
}
