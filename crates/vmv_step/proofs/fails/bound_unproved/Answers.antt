use Rattle.std.proofs.Common.{arith, to_z, of_z}
use Rattle.std.specs.Int.{w64}
use Rattle.std.proofs.lemmas.Int.{ints}
use Rattle.vmv_step.proofs.Told.{up_of, none_of, bound_none, bound_told}
use Rattle.vmv_zone.proofs.Normed.{norm_itself}
use Rattle.vmv_step.proofs.fails.bound_unproved.Goals as goal

pub returns-then-is_bottom : goal.returns-then-is_bottom
returns-then-is_bottom c = bound_none c.args.before.now c.args.before.now c.args.bound c.args.cap (norm_itself _ c.requires.normal) (none_of _ _ c.is_bottom.ensures c.if-is_bottom.true)

pub returns : goal.returns
returns c = bound_told c.args.before.now c.args.before.now c.args.bound c.args.cap (to_z w64 (of_z w64 c.args.cap)) (to_z w64 (of_z w64 c.ends_of.result.hi)) (norm_itself _ c.requires.normal) (up_of _ _ c.is_bottom.ensures c.if-is_bottom.false) (omega (arith, ints)) (let e = c.ends_of.ensures.hi in omega (arith, ints))
