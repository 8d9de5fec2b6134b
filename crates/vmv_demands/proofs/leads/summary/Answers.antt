use Rattle.vmv_demands.proofs.Leading.{summary_is}
use Rattle.vmv_demands.proofs.Standing.{on_slice}
use Rattle.vmv_demands.proofs.leads.summary.Goals as goal

pub returns : goal.returns
returns c =
    summary_is c.args.snapshot.now.codes c.args.proc _ _ _ _ _ c.code-code.ensures.kept c.as_slice.ensures c.in_ok-leads.ensures (λ before stands. c.operand-result.ensures before (on_slice before _ _ c.as_slice-2.ensures stands))
