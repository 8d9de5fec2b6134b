use Rattle.vmv_snapshot_laws.proofs.Codes.{resolution_once}
use Rattle.vmv_snapshot_laws.proofs.laws.resolutions_are_unique.Goals as goal

pub returns : goal.returns
returns c = resolution_once
