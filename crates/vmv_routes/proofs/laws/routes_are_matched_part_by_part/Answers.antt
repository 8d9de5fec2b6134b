use Rattle.vmv_routes.proofs.Matching.{matched}
use Rattle.vmv_routes.proofs.Making.{made}
use Rattle.vmv_routes.proofs.laws.routes_are_matched_part_by_part.Goals as goal

pub returns : goal.returns
returns c = λ path route text utf8. (matched path route text, made path route text utf8)
