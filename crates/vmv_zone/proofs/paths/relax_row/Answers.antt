use Rattle.std.proofs.Common.{arith, rules, ◌≡◌, ◌+◌, ◌*◌, ◌-◌, ◌^◌, ◌≤◌, negsuc, ◌+ℤ◌, ◌≤ℤ◌, set, FitsSigned}
use Rattle.std.specs.Int.{int_min, w128}
use Rattle.std.proofs.lemmas.Int.{ints, clamps, to_z-of_z}
use Rattle.vmv_zone.specs.Bounds.{bound_at}
use Rattle.vmv_zone.proofs.Rows.{row_more}
use Rattle.vmv_zone.proofs.Shortest.{shortened, none_short}
use Rattle.vmv_zone.proofs.paths.relax_row.Goals as goal

pub loop-q-preserved : goal.loop-q-preserved
loop-q-preserved c =
    let hq : c.loop-q.q ≤ c.args.vars = omega arith in
    let fits : FitsSigned w128 c.args.through = c.ranges.through in
    let there = c.loop-q.invariant.settles.reach (18 * c.args.j + c.loop-q.q) in
    let l = there.low in let h = there.high in
    let tl = c.requires.through.low in let th = c.requires.through.high in
    let fits'' : FitsSigned w128 (bound_at c.loop-q.bounds c.args.j c.loop-q.q) = omega (arith, ints) in
    let fits' : FitsSigned w128 (c.args.through +ℤ bound_at c.loop-q.bounds c.args.j c.loop-q.q) = omega (arith, ints) in
    let inv = simp to_z-of_z at c.loop-q.invariant in
    let e : c.shorten.new.bounds ≡ set c.loop-q.bounds (18 * c.args.p + c.loop-q.q) (int_min (c.args.through +ℤ bound_at c.loop-q.bounds c.args.j c.loop-q.q) (bound_at c.loop-q.bounds c.args.p c.loop-q.q)) = simp to_z-of_z at (c.if-not-shorten.ensures.lowered (search rules)) in
    let room : negsuc (2 ^ 64 - 1) ≤ℤ int_min (c.args.through +ℤ bound_at c.loop-q.bounds c.args.j c.loop-q.q) (bound_at c.loop-q.bounds c.args.p c.loop-q.q) = simp to_z-of_z at (c.if-not-shorten.ensures.room (search rules)) in
    simp to_z-of_z (rw e (record {
      row = row_more _ _ _ _ _ c.args.through _ _ c.requires.vars c.requires.p hq c.requires.reach inv.row (omega (arith, ints, clamps)) room;
      settles = shortened _ _ _ _ _ _ c.args.through _ inv.row.full c.requires.vars c.requires.j c.requires.p hq (omega (arith, ints, clamps)) room inv.settles;
    }))

pub returns-then-not-shorten-clause-settles : goal.returns-then-not-shorten-clause-settles
returns-then-not-shorten-clause-settles c =
    let fits : FitsSigned w128 c.args.through = c.ranges.through in
    rw (c.if-not-shorten.ensures.stays (search rules)) (simp to_z-of_z at c.loop-q.invariant.settles)

pub returns-then-not-shorten-clause-empty : goal.returns-then-not-shorten-clause-empty
returns-then-not-shorten-clause-empty c t n closed kept below =
    let hq : c.loop-q.q ≤ c.args.vars = omega arith in
    let fits : FitsSigned w128 c.args.through = c.ranges.through in
    let there = c.loop-q.invariant.settles.reach (18 * c.args.j + c.loop-q.q) in
    let l = there.low in let h = there.high in
    let tl = c.requires.through.low in let th = c.requires.through.high in
    let fits'' : FitsSigned w128 (bound_at c.loop-q.bounds c.args.j c.loop-q.q) = omega (arith, ints) in
    let fits' : FitsSigned w128 (c.args.through +ℤ bound_at c.loop-q.bounds c.args.j c.loop-q.q) = omega (arith, ints) in
    let inv = simp to_z-of_z at c.loop-q.invariant in
    let cycle = c.if-not-shorten.ensures.cycle (search rules) in
    none_short n c.args.vars c.loop-q.bounds c.args.j c.args.p c.loop-q.q c.args.through c.requires.j c.requires.p hq (simp to_z-of_z at cycle) kept closed (inv.settles.below n (closed, kept) below)
