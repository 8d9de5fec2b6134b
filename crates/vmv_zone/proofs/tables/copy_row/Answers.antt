use Rattle.std.proofs.Common.{arith, rules, ◌*◌, ◌+◌}
use Rattle.std.proofs.lemmas.Int.{ints}
use Rattle.vmv_zone.proofs.Lines.{row_none, row_more}
use Rattle.vmv_zone.proofs.tables.copy_row.Goals as goal

pub loop-k-init : goal.loop-k-init
loop-k-init c = row_none _ _ _ (search rules) c.requires.reach

pub loop-k-preserved : goal.loop-k-preserved
loop-k-preserved c =
    let there = c.loop-k.invariant.reach (18 * c.args.last + c.loop-k.k) in
    let low = there.low in let high = there.high in
    row_more _ _ _ _ _ _ c.requires.to c.requires.last (omega (arith, c.requires.last)) c.loop-k.invariant (omega (arith, ints))
