use Rattle.vmv_table_sound.proofs.Boxes.{dead_stays, dead_says}
use Rattle.vmv_table_sound.proofs.laws.dead_entries_dont_return.Goals as goal

pub returns : goal.returns
returns c = λ program number box ends assumed name words answers word is dead. let says = dead_says program number box ends assumed dead in dead_stays program number box assumed says.0 name words answers word is says.1
