use Rattle.vmv_step.proofs.Told.{test_told}
use Rattle.vmv_step.proofs.fails.test_unproved.Goals as goal

pub returns : goal.returns
returns c = test_told c.args.test c.negation.result c.args.before.now c.allows.result c.allows.ensures c.negation.ensures
