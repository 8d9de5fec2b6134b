use Rattle.vmv_zone.proofs.Normed.{guarded_through}
use Rattle.vmv_step.proofs.simple.branch.Goals as goal

pub returns : goal.returns
returns c = record {
  holds = guarded_through c.args.zone c.normalize.new.self _ _ c.normalize.ensures c.branch_in_place.ensures.branched.holds;
  fails = guarded_through c.args.zone c.normalize.new.self _ _ c.normalize.ensures c.branch_in_place.ensures.branched.fails;
}
