use Rattle.std.proofs.Common.{◌≡◌, take}
use Rattle.vmv_run.specs.Walk.{frame_of}
use Rattle.vmv_run.proofs.frame.entry_frame.Given as goal

abbrev pub invariant-loop-i : goal.invariant-loop-i
invariant-loop-i l = l.own ≡ frame_of (take l.i l.words)
