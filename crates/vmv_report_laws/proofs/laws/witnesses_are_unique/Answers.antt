use Rattle.vmv_report_laws.proofs.Classing.{witnesses_once}
use Rattle.vmv_report_laws.proofs.laws.witnesses_are_unique.Goals as goal

pub returns : goal.returns
returns c = witnesses_once
