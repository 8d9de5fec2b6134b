use Rattle.std.proofs.Common.{sym, subst, ap}
use Rattle.vmv_tree.specs.View.{items_of, program_of}
use Rattle.vmv_snapshot.proofs.Build.{built_start, next_at, more_at, end_at}
use Rattle.vmv_snapshot.proofs.resolve.resolve.Goals as goal

pub loop-item-init : goal.loop-item-init
loop-item-init c = rw c.as_slice-item-items.ensures (built_start (program_of c.args.program.now) _ c.requires c.new.ensures.empty c.new-2.ensures.empty c.new-3.ensures.items)

pub push_item-requires : goal.push_item-requires
push_item-requires c =
    next_at (program_of c.args.program.now) c.as_slice-item-items.result.now c.loop-item.item-index c.item-item.result c.loop-item.tables c.loop-item-test.true c.item-item.is c.loop-item.invariant

pub loop-item-preserved : goal.loop-item-preserved
loop-item-preserved c =
    more_at (program_of c.args.program.now) c.as_slice-item-items.result.now c.loop-item.item-index c.item-item.result c.loop-item.tables c.push_item.new.tables c.loop-item-test.true c.item-item.is
    c.loop-item.invariant c.in_ok-push_item.ensures

pub returns : goal.returns
returns c =
    end_at (program_of c.args.program.now) c.as_slice-item-items.result.now c.loop-item.item-index c.loop-item.tables c.loop-item-test.false c.loop-item.invariant
