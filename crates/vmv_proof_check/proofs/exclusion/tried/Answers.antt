use Rattle.std.proofs.Common.{inl}
use Rattle.vmv_assumption.specs.Assumed.{cond_of}
use Rattle.vmv_proof_check.proofs.Excluding.{dead_turn}
use Rattle.vmv_proof_check.proofs.exclusion.tried.Goals as goal

pub returns-in-Ok : goal.returns-in-Ok
returns-in-Ok c = dead_turn c.args.base.now (cond_of c.args.assumed.now) c.args.x.now c.says_no_return.result c.without_row.result c.in-Ok.ensures.accepted c.says_no_return.ensures c.without_row.ensures.passes c.without_row.ensures.fails

pub returns-in-Err : goal.returns-in-Err
returns-in-Err c = λ number params named. inl c.in-Err.ensures.refused
