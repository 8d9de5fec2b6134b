use Rattle.vmv_table_sound.proofs.Environments.{provable_holds}
use Rattle.vmv_table_sound.proofs.laws.provable_sites_dont_fail.Goals as goal

pub returns : goal.returns
returns c = provable_holds
