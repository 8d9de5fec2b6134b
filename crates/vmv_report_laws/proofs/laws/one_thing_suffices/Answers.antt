use Rattle.vmv_report_laws.proofs.Needing.{enough_for_once}
use Rattle.vmv_report_laws.proofs.laws.one_thing_suffices.Goals as goal

pub returns : goal.returns
returns c = enough_for_once
