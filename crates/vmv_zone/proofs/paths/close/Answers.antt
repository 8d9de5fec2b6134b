use Rattle.std.proofs.Common.{arith, rules, ◌≤◌}
use Rattle.vmv_zone.proofs.Shortest.{settles_on, ways_more, ways_closed}
use Rattle.vmv_zone.proofs.paths.close.Goals as goal

pub loop-j-preserved : goal.loop-j-preserved
loop-j-preserved c =
    let hj : c.loop-j.j ≤ c.args.vars = omega arith in
    let ensured = c.if-not-relax_through.ensures in
    record {
      full = ensured.full;
      settles = settles_on _ _ _ _ _ _ _ (λ n closed. closed) (λ n closed below. closed) c.loop-j.invariant.settles ensured.settles;
      ways = ways_more _ _ _ _ hj (ensured.cycle (search rules)) (ensured.lowered (search rules)) c.loop-j.invariant.ways;
    }

pub returns-clause-closed : goal.returns-clause-closed
returns-clause-closed c t = ways_closed _ _ _ c.loop-j.invariant.settles.lower c.requires.top (λ r h. c.loop-j.invariant.ways r (omega arith))
