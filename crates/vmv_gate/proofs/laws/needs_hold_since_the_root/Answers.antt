-- What is necessary for a base is below what is necessary for a correct revision.
use Rattle.vmv_gate.proofs.Chained.{since_roots}
use Rattle.vmv_gate.proofs.laws.needs_hold_since_the_root.Goals as goal

pub returns : goal.returns
returns g c = since_roots c.correct_revisions_are_safe_within_the_necessary.ensures c.args._gate.now.one_report
