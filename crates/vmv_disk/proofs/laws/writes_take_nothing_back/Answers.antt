use Rattle.vmv_disk.specs.Laws.{wider}
use Rattle.vmv_disk.proofs.laws.writes_take_nothing_back.Goals as goal

pub returns : goal.returns
returns c = wider
