use Rattle.std.proofs.Common.{arith, rules, FitsSigned}
use Rattle.std.specs.Int.{w128}
use Rattle.std.proofs.lemmas.Int.{to_z-of_z}
use Rattle.vmv_zone.proofs.Filled.{row_begun, row_filled}
use Rattle.vmv_zone.proofs.args.fill_row.Goals as goal

pub loop-j-init : goal.loop-j-init
loop-j-init c = row_begun _ _ _ (search rules) c.requires.reach

pub loop-j-preserved : goal.loop-j-preserved
loop-j-preserved c =
    let fits : FitsSigned w128 c.arg_bound.result = search rules in
    simp to_z-of_z (row_filled _ _ _ _ _ _ (omega (arith, c.requires.few)) (omega (arith, c.requires.few)) c.loop-j.invariant c.arg_bound.ensures.value c.arg_bound.ensures.reach)
