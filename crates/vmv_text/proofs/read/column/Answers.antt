use Rattle.std.proofs.Common.{◌≡◌, take, arith}
use Rattle.vmv_text.specs.Faults.{column_after}
use Rattle.vmv_text.proofs.Columns.{column_short}
use Rattle.vmv_text.proofs.read.column.Goals as goal

pub overflow_add-column : goal.overflow_add-column
overflow_add-column c =
    let here : c.loop-byte.column ≡ column_after (take c.loop-byte.byte-index c.args.front.now) = c.loop-byte.invariant in
    let bound = column_short c.args.front.now c.loop-byte.byte-index (omega arith) in
    omega (arith, here, bound)
