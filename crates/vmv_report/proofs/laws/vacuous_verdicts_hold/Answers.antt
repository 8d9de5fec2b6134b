use Rattle.vmv_report.proofs.Relating.{verdict_vacuous}
use Rattle.vmv_report.proofs.laws.vacuous_verdicts_hold.Goals as goal

pub returns : goal.returns
returns c = verdict_vacuous c.vacuous_programs_have_no_safe_environment.ensures
