use Rattle.std.proofs.Common.{arith, rules, FitsSigned}
use Rattle.std.specs.Int.{w128}
use Rattle.std.proofs.lemmas.Int.{to_z-of_z}
use Rattle.vmv_zone.proofs.Lines.{line_none, line_more, extended_row, extended_column, extended_done}
use Rattle.vmv_zone.proofs.tables.extend_bounds.Goals as goal

pub loop-k-init : goal.loop-k-init
loop-k-init c = line_none _ _ _ (search rules) c.requires.reach

pub loop-k-preserved : goal.loop-k-preserved
loop-k-preserved c =
    let fits : FitsSigned w128 c.extended_at-from.result = search rules in
    let fits' : FitsSigned w128 c.extended_at-to.result = search rules in
    simp to_z-of_z (line_more _ _ _ _ _ _ _ c.requires.last (omega (arith, c.requires.last)) c.loop-k.invariant
    (extended_row _ _ _ _ _ c.requires.last c.loop-k-test.true c.loop-k.invariant (c.extended_at-from.ensures.inside (omega (arith, c.loop-k-test.true))))
    (extended_column _ _ _ _ _ c.requires.last c.loop-k-test.true c.loop-k.invariant (c.extended_at-to.ensures.inside (omega arith)))
    c.extended_at-from.ensures.reach c.extended_at-to.ensures.reach)

pub returns : goal.returns
returns c = extended_done _ _ _ c.loop-k.k (omega arith) c.requires.variable c.requires.last c.requires.outside c.loop-k.invariant
