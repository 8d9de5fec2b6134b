-- Each part of what makes rows well formed is kept.
use Rattle.vmv_keeper.proofs.FormedAfter.{AreFormed-after}
use Rattle.vmv_keeper.proofs.laws.changes_keep_rows_formed.Goals as goal

pub returns : goal.returns
returns c = AreFormed-after
