use Rattle.vmv_report_laws.proofs.Needing.{needed_once}
use Rattle.vmv_report_laws.proofs.laws.one_thing_is_necessary.Goals as goal

pub returns : goal.returns
returns c = needed_once c.least_tables_are_unique.ensures
