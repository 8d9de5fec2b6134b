-- An input has one exchange.
use Rattle.vmv_http.proofs.Determined.{one_exchange}
use Rattle.vmv_http.proofs.laws.an_exchange_is_one.Goals as goal

pub returns : goal.returns
returns c J input tables new other answer again a b = one_exchange J input tables new other answer again a b
