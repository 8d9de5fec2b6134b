use Rattle.vmv_table_sound.proofs.Environments.{piece_says}
use Rattle.vmv_table_sound.proofs.laws.tables_avoid_pieces.Goals as goal

pub returns : goal.returns
returns c = piece_says
