use Rattle.vmv_demands.proofs.Standing.{given_leads}
use Rattle.vmv_demands.proofs.sources.given.Goals as goal

pub returns-in-Some : goal.returns-in-Some
returns-in-Some c = λ before stands want w. given_leads before _ _ _ _ want c.argument.ensures c.in-Some.is (c.operand.ensures before stands want w)
