use Rattle.vmv_table_sound.proofs.Sites.{proved_safe}
use Rattle.vmv_table_sound.proofs.laws.proved_programs_are_safe.Goals as goal

pub returns : goal.returns
returns c = proved_safe
