use Rattle.std.proofs.Common.{rules}
use Rattle.vmv_enough.proofs.Narrower.{same_if}
use Rattle.vmv_enough.proofs.open.is_same_cond.Goals as goal

pub returns : goal.returns
returns c = same_if c.args.cond c.args.other c.zero_out.result c.zero_out-2.result (search rules) (search rules) c.zero_out.ensures.value c.zero_out-2.ensures.value
