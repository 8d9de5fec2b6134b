use Rattle.vmv_run.proofs.Sources.{taken_constant}
use Rattle.vmv_run.proofs.source.Source.into_taken.Goals as goal

pub returns-in-Constant : goal.returns-in-Constant
returns-in-Constant c = taken_constant c.args.self c.in-Constant.names c.in-Constant.values c.in-Constant.taken c.in-Constant.is
