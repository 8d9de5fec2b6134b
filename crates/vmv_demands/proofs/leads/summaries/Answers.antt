use Rattle.vmv_demands.proofs.Leading.{no_rows, one_row_more}
use Rattle.vmv_demands.proofs.leads.summaries.Goals as goal

pub loop-n-init : goal.loop-n-init
loop-n-init c = no_rows _ _ c.new-rows.ensures

pub loop-n-preserved : goal.loop-n-preserved
loop-n-preserved c = one_row_more _ _ _ _ _ c.loop-n.invariant.0 c.loop-n.invariant.1 c.in_ok-row.ensures c.in_ok-push.ensures.ok
