use Rattle.std.proofs.Common.{◌≤◌, ◌-◌, ◌*◌, arith}
use Rattle.std.proofs.lemmas.Int.{ints}
use Rattle.vmv_zone.proofs.Closing.{from_zero_high, to_zero_high}
use Rattle.vmv_zone.proofs.tables.extended_at.Goals as goal

pub returns-then-i-last-2-clause-reach : goal.returns-then-i-last-2-clause-reach
returns-then-i-last-2-clause-reach c =
    let hj : c.args.j ≤ c.args.last - 1 = omega arith in
    let high = from_zero_high c.args.bounds.now (c.args.last - 1) c.args.j hj c.requires.topped in
    let r = c.requires.reach c.args.j in
    let low = r.low in
    record { low = omega (arith, ints); high = omega (arith, ints) }

pub returns-else-i-last-clause-reach : goal.returns-else-i-last-clause-reach
returns-else-i-last-clause-reach c =
    let hi : c.args.i ≤ c.args.last - 1 = omega arith in
    let high = to_zero_high c.args.bounds.now (c.args.last - 1) c.args.i hi c.requires.topped in
    let r = c.requires.reach (18 * c.args.i) in
    let low = r.low in
    record { low = omega (arith, ints); high = omega (arith, ints) }
