use Rattle.vmv_table_sound.proofs.Rows.{sound}
use Rattle.vmv_table_sound.proofs.laws.accepted_tables_are_sound.Goals as goal

pub returns : goal.returns
returns c = sound
