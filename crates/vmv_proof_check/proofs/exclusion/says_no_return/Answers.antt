use Rattle.vmv_proof_check.proofs.Excluding.{dead_told}
use Rattle.vmv_proof_check.proofs.exclusion.says_no_return.Goals as goal

pub returns : goal.returns
returns c = λ base number params named. dead_told base number params c.args.x.now c.seek-sought.result c.as_slice.result.now c.has_dead.result c.seek-sought.ensures c.as_slice.ensures c.has_dead.ensures named
