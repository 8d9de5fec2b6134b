use Rattle.std.proofs.Common.{arith, rules, inr, ◌≤◌, ◌*◌, ◌+◌, FitsSigned}
use Rattle.std.specs.Int.{w128}
use Rattle.std.proofs.lemmas.Int.{ints, clamps, to_z-of_z}
use Rattle.vmv_zone.proofs.Rows.{row_none, row_more}
use Rattle.vmv_zone.proofs.tables.lower_row.Goals as goal

pub loop-q-init : goal.loop-q-init
loop-q-init c = row_none _ _ _ _ (search rules) c.requires.reach

pub overflow_add-path : goal.overflow_add-path
overflow_add-path c =
    let hq : c.loop-q.q ≤ c.args.vars = omega arith in
    let low = c.requires.room c.loop-q.q hq in
    let there = c.loop-q.invariant.reach (18 * c.args.j + c.loop-q.q) in
    let l = there.low in let h = there.high in
    let wl = c.requires.wide.low in let wh = c.requires.wide.high in
    omega (arith, ints)

pub loop-q-preserved : goal.loop-q-preserved
loop-q-preserved c =
    let hq : c.loop-q.q ≤ c.args.vars = omega arith in
    let there = c.loop-q.invariant.reach (18 * c.args.j + c.loop-q.q) in
    let l = there.low in let h = there.high in
    let here = c.loop-q.invariant.reach (18 * c.args.p + c.loop-q.q) in
    let l' = here.low in let h' = here.high in
    let wl = c.requires.wide.low in let wh = c.requires.wide.high in
    let value = c.min.ensures.value in
    let low = c.requires.room c.loop-q.q hq in
    let stays = c.loop-q.invariant.rest c.args.j c.loop-q.q (omega arith) (inr (omega arith)) in
    let stays' = c.loop-q.invariant.rest c.args.p c.loop-q.q (omega arith) (inr (omega arith)) in
    let fits : FitsSigned w128 c.args.through = c.ranges.through in
    let fits' : FitsSigned w128 c.min.result = search rules in
    simp to_z-of_z (row_more _ _ _ _ _ c.args.through _ _ c.requires.few c.requires.p hq c.requires.reach (simp to_z-of_z at c.loop-q.invariant) (omega (arith, ints, clamps)) (omega (arith, ints, clamps)))

pub returns : goal.returns
returns c =
    let fits : FitsSigned w128 c.args.through = c.ranges.through in
    record {
      row = λ q hq. simp to_z-of_z at (c.loop-q.invariant.done q (omega arith));
      others = λ r q hq h. c.loop-q.invariant.rest r q hq (search rules);
      reach = c.loop-q.invariant.reach;
    }
