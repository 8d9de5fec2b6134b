use Rattle.std.proofs.Common.{arith, rules, FitsSigned}
use Rattle.std.specs.Int.{w128}
use Rattle.std.proofs.lemmas.Int.{to_z-of_z}
use Rattle.vmv_zone.proofs.Filled.{top_in_reach}
use Rattle.vmv_zone.proofs.Rounding.{reach_as}
use Rattle.vmv_zone.proofs.Lines.{line_none, line_more, freed_done}
use Rattle.vmv_zone.proofs.tables.free_bounds.Goals as goal

pub loop-k-init : goal.loop-k-init
loop-k-init c = line_none _ _ _ (search rules) c.requires.reach

pub loop-k-preserved : goal.loop-k-preserved
loop-k-preserved c =
    let fits : FitsSigned w128 c.top_of-from.result = search rules in
    let fits' : FitsSigned w128 c.top_of-to.result = search rules in
    simp to_z-of_z (line_more _ _ _ _ _ _ _ (omega (arith, c.requires.few, c.requires.x)) (omega (arith, c.requires.few)) c.loop-k.invariant c.top_of-from.ensures c.top_of-to.ensures
    (reach_as _ _ (top_in_reach c.args.x c.loop-k.k) c.top_of-from.ensures) (reach_as _ _ (top_in_reach c.loop-k.k c.args.x) c.top_of-to.ensures))

pub returns : goal.returns
returns c = freed_done _ _ _ _ c.loop-k.k (omega arith) c.requires.few c.requires.x c.requires.outside c.loop-k.invariant
