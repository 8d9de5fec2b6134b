use Rattle.vmv_forward.proofs.FirstRows.{decides_death}
use Rattle.vmv_forward.proofs.laws.least_tables_decide_death.Goals as goal

pub returns : goal.returns
returns c = λ program number params box ends assumed first rest is entry in_box least. decides_death program number params box ends assumed first rest entry in_box least
