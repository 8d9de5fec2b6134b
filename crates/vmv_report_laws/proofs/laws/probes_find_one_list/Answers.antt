use Rattle.vmv_report_laws.proofs.Probing.{found_once}
use Rattle.vmv_report_laws.proofs.laws.probes_find_one_list.Goals as goal

pub returns : goal.returns
returns c = found_once
