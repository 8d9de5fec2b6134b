use Rattle.vmv_table_sound.proofs.Environments.{dead_piece}
use Rattle.vmv_table_sound.proofs.laws.dead_pieces_are_avoided.Goals as goal

pub returns : goal.returns
returns c = dead_piece
