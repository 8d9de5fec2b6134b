use Rattle.std.proofs.Common.{◌≡◌, drop}
use Rattle.vmv_snapshot.specs.View.{block_of}
use Rattle.vmv_back.specs.Facts.{slots_of}
use Rattle.vmv_back.specs.Boxes.{boxes_inside}
use Rattle.vmv_back.specs.Kept.{with_boxes}
use Rattle.vmv_back.proofs.apart.+walk.Given as goal

abbrev pub invariant-keep_inside-loop-stmt : goal.invariant-keep_inside-loop-stmt
invariant-keep_inside-loop-stmt l =
    with_boxes l.boxes (boxes_inside (slots_of l.slots) l.within (block_of (drop l.stmt-index l.block)))
    ≡ with_boxes l.initial.boxes (boxes_inside (slots_of l.slots) l.within (block_of l.block))
