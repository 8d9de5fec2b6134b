use Rattle.std.proofs.Common.{◌≡◌, take}
use Rattle.vmv_text.specs.Faults.{column_after}
use Rattle.vmv_text.proofs.read.column.Given as goal

abbrev pub invariant-loop-byte : goal.invariant-loop-byte
invariant-loop-byte l = l.column ≡ column_after (take l.byte-index l.front)
