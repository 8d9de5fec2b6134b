use Rattle.std.proofs.Common.{reverse, arith}
use Rattle.vmv_tree.specs.View.{block_of, items_of}
use Rattle.vmv_valid.proofs.Measured.{measured_statements}
use Rattle.vmv_valid.proofs.Walking.{same_statements, ends_before}
use Rattle.vmv_valid.proofs.item.walk_entry.Goals as goal

pub walk_body-requires : goal.walk_body-requires
walk_body-requires c =
    let few = measured_statements c.args.place.now.callees.now (reverse (items_of c.args.place.now.above.now)) (block_of c.as_slice.result.now) c.measured_all-measures.result
    c.requires.callees c.measured_all-measures.ensures in
    let same = same_statements c.as_slice.result.now c.args.body.now.block c.as_slice.ensures in
    omega (arith, few, same, c.in_ok-at.ensures.next, c.in_ok-at-2.ensures.within, c.in_ok-at-3.ensures.within, c.in_ok-at-4.ensures.next, c.capped_sum-names.ensures)

pub returns-clause-next : goal.returns-clause-next
returns-clause-next c =
    let few = measured_statements c.args.place.now.callees.now (reverse (items_of c.args.place.now.above.now)) (block_of c.as_slice.result.now) c.measured_all-measures.result
    c.requires.callees c.measured_all-measures.ensures in
    let same = same_statements c.as_slice.result.now c.args.body.now.block c.as_slice.ensures in
    ends_before c.walk_body.result _ _
    (omega (arith, few, same, c.in_ok-at.ensures.next, c.in_ok-at-2.ensures.within, c.in_ok-at-3.ensures.within, c.in_ok-at-4.ensures.next, c.capped_sum-names.ensures))
    c.walk_body.ensures.next
