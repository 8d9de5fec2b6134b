use Rattle.vmv_table_sound.proofs.Environments.{dead_base}
use Rattle.vmv_table_sound.proofs.laws.dead_bases_have_no_safe_environment.Goals as goal

pub returns : goal.returns
returns c = dead_base
