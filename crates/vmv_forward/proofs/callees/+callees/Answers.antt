use Rattle.std.proofs.Common.{◌≡◌, ◌++◌}
use Rattle.vmv_snapshot.specs.View.{stmt_of, block_of}
use Rattle.vmv_pass.specs.Callees.{callees, block_callees}
use Rattle.vmv_forward.proofs.Calling.{plain_adds, if_adds, on_then}
use Rattle.vmv_forward.proofs.callees.+callees.Goals as goal

pub add_callees-returns-in-Plain : goal.add_callees-returns-in-Plain
add_callees-returns-in-Plain t c = plain_adds c.args.stmt.now c.in-Plain.field-0 c.args.list.now.items c.in-Plain.is

pub add_callees-returns-in_ok-add_block_callees-in-If : goal.add_callees-returns-in_ok-add_block_callees-in-If
add_callees-returns-in_ok-add_block_callees-in-If t c =
    on_then c.add_block_callees-in-If.result
    (c.add_block_callees-in-If.new.list.items ≡ c.add_block_callees.new.list.items ++ block_callees (block_of c.as_slice-in-If.result.now))
    (c.add_block_callees-in-If.new.list.items ≡ c.args.list.now.items ++ callees (stmt_of c.args.stmt.now))
    (λ more. if_adds c.args.stmt.now c.in-If.test c.in-If.first c.in-If.second c.as_slice.result.now c.as_slice-in-If.result.now c.args.list.now.items c.add_block_callees.new.list.items c.add_block_callees-in-If.new.list.items c.in-If.is c.as_slice.ensures c.as_slice-in-If.ensures
    c.in_ok-add_block_callees-in-If.ensures more)
    c.add_block_callees-in-If.ensures
