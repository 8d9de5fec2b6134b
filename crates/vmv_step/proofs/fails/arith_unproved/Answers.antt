use Rattle.vmv_step.proofs.Told.{up_of, none_of, arith_none, arith_some}
use Rattle.vmv_zone.proofs.Normed.{norm_itself}
use Rattle.vmv_step.proofs.fails.arith_unproved.Goals as goal

pub returns-then-is_bottom : goal.returns-then-is_bottom
returns-then-is_bottom c = arith_none c.args.op c.args.before.now c.args.before.now c.args.left c.args.right (norm_itself _ c.requires.normal) (none_of _ _ c.is_bottom.ensures c.if-is_bottom.true)

pub returns : goal.returns
returns c = arith_some c.args.op c.args.before.now c.args.before.now c.args.left c.args.right _ (norm_itself _ c.requires.normal) (up_of _ _ c.is_bottom.ensures c.if-is_bottom.false) c.may_fail.ensures
