use Rattle.vmv_report.proofs.Relating.{verdict_within}
use Rattle.vmv_report.proofs.laws.correct_revisions_are_safe_within_the_necessary.Goals as goal

pub returns : goal.returns
returns c =
    verdict_within c.every_environment_is_within_whole.ensures c.safe_environments_meet_the_necessary.ensures c.failing_sites_are_reached.ensures c.provable_sites_dont_fail.ensures
