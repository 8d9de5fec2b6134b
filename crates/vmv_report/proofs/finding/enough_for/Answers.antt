use Rattle.vmv_report.proofs.Sufficing.{needed_names, needed_nonempty}
use Rattle.vmv_report.proofs.finding.enough_for.Goals as goal

pub sufficient-requires-clause-names : goal.sufficient-requires-clause-names
sufficient-requires-clause-names g c = λ κs within. needed_names c.args.base.now c.args.needed.now _ _ c.requires.needed c.in-Conditions.is

pub sufficient-requires-clause-nonempty : goal.sufficient-requires-clause-nonempty
sufficient-requires-clause-nonempty g c = λ κs within. needed_nonempty c.args.base.now c.args.needed.now _ _ c.requires.needed c.in-Conditions.is
