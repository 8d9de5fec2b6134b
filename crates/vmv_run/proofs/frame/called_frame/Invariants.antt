use Rattle.std.proofs.Common.{◌≡◌, take, map}
use Rattle.vmv_run.specs.Walk.{word_in, frame_of}
use Rattle.vmv_run.proofs.frame.called_frame.Given as goal

abbrev pub invariant-loop-i : goal.invariant-loop-i
invariant-loop-i l = l.own ≡ frame_of (map (word_in l.frame) (take l.i l.args))
