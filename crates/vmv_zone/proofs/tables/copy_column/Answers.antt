use Rattle.std.proofs.Common.{arith, rules, ◌*◌, ◌+◌}
use Rattle.std.proofs.lemmas.Int.{ints}
use Rattle.vmv_zone.proofs.Lines.{column_none, column_more}
use Rattle.vmv_zone.proofs.tables.copy_column.Goals as goal

pub loop-k-init : goal.loop-k-init
loop-k-init c = column_none _ _ _ (search rules) c.requires.reach

pub loop-k-preserved : goal.loop-k-preserved
loop-k-preserved c =
    let there = c.loop-k.invariant.reach (18 * c.loop-k.k + c.args.last) in
    let low = there.low in let high = there.high in
    column_more _ _ _ _ _ _ c.requires.to c.requires.last (omega arith) c.loop-k.invariant (omega (arith, ints))
