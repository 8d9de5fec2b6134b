use Rattle.vmv_report_laws.proofs.Probing.{fails_once}
use Rattle.vmv_report_laws.proofs.laws.a_probe_fails_in_one_way.Goals as goal

pub returns : goal.returns
returns c = fails_once
