use Rattle.vmv_routes.proofs.Parts.{query_ignored}
use Rattle.vmv_routes.proofs.laws.queries_decide_nothing.Goals as goal

pub returns : goal.returns
returns c = query_ignored
