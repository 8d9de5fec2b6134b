use Rattle.std.proofs.Common.{arith, rules, FitsSigned}
use Rattle.std.specs.Int.{w128}
use Rattle.std.proofs.lemmas.Int.{to_z-of_z}
use Rattle.vmv_zone.specs.Bounds.{IsInReach}
use Rattle.vmv_zone.proofs.Filled.{row_begun, row_filled, top_in_reach}
use Rattle.vmv_zone.proofs.tables.top_row.Goals as goal

pub loop-j-init : goal.loop-j-init
loop-j-init c = row_begun _ _ _ (search rules) c.requires.reach

pub loop-j-preserved : goal.loop-j-preserved
loop-j-preserved c =
    let fits : FitsSigned w128 c.top_of.result = search rules in
    let here : IsInReach c.top_of.result = rw c.top_of.ensures (top_in_reach c.args.i c.loop-j.j) in
    simp to_z-of_z (row_filled _ _ _ _ _ _ (omega arith) (omega arith) c.loop-j.invariant c.top_of.ensures here)
