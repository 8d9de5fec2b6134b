use Rattle.vmv_need.proofs.Scopes.{one_scope}
use Rattle.vmv_need.proofs.laws.a_program_has_one_scope.Goals as goal

pub returns : goal.returns
returns c = one_scope
