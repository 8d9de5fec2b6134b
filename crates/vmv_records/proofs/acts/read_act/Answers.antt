use Rattle.std.proofs.Common.{arith}
use Rattle.vmv_records.proofs.Records.{act_found, act_only}
use Rattle.vmv_records.proofs.acts.read_act.Goals as goal

pub returns-clause-found : goal.returns-clause-found
returns-clause-found c = act_found c.args.bytes.now c.act_in.result (λ i. omega (arith, c.type_inv.bytes i)) c.act_in.ensures

pub returns-clause-only : goal.returns-clause-only
returns-clause-only c = act_only c.args.bytes.now c.act_in.result c.act_in.ensures
