use Rattle.vmv_table_sound.proofs.Environments.{left_out_holds}
use Rattle.vmv_table_sound.proofs.laws.sites_left_out_dont_fail.Goals as goal

pub returns : goal.returns
returns c = left_out_holds
