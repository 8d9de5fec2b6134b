-- An input asks for one thing.
use Rattle.vmv_http.proofs.Determined.{one_request, none_early}
use Rattle.vmv_http.proofs.laws.inputs_ask_for_one_thing.Goals as goal

pub returns-clause-one : goal.returns-clause-one
returns-clause-one c input asked other a b = one_request input asked other a b

pub returns-clause-none : goal.returns-clause-none
returns-clause-none c input asked a b = none_early input asked a b
