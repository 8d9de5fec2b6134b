use Rattle.std.proofs.Common.{arith, rules, ◌+ℤ◌, ◌≤◌, ◌*◌, ◌+◌, FitsSigned}
use Rattle.std.specs.Int.{w128}
use Rattle.std.proofs.lemmas.Int.{ints, to_z-of_z}
use Rattle.vmv_zone.specs.Bounds.{bound_at}
use Rattle.vmv_zone.proofs.Rows.{rows_none, rows_more, rows_skip, rows_done, row_room}
use Rattle.vmv_zone.proofs.tables.close_through.Goals as goal
use Rattle.vmv_zone.proofs.tables.close_through.Goals.{then-through-bounds, else-through-bounds}

pub loop-p-init : goal.loop-p-init
loop-p-init c = rows_none _ _ _ _ _ (search rules) c.requires.reach

pub overflow_add-through : goal.overflow_add-through
overflow_add-through c =
    let here = c.loop-p.invariant.reach (18 * c.loop-p.p + c.args.i) in
    let l = here.low in let h = here.high in
    let bl = c.requires.bound.low in let bh = c.requires.bound.high in
    omega (arith, ints)

pub lower_row-requires-clause-wide : goal.lower_row-requires-clause-wide
lower_row-requires-clause-wide c =
    let here = c.loop-p.invariant.reach (18 * c.loop-p.p + c.args.i) in
    let l = here.low in let h = here.high in
    let bl = c.requires.bound.low in let bh = c.requires.bound.high in
    record { low = omega (arith, ints); high = omega (arith, ints) }

pub lower_row-requires-clause-room : goal.lower_row-requires-clause-room
lower_row-requires-clause-room c q hq =
    let hp : c.loop-p.p ≤ c.args.vars = omega arith in
    let here = c.loop-p.invariant.reach (18 * c.loop-p.p + c.args.i) in
    let l = here.low in let h = here.high in
    let bl = c.requires.bound.low in let bh = c.requires.bound.high in
    let fits : FitsSigned w128 c.args.bound = c.ranges.bound in
    row_room c.args.bounds.now _ c.args.vars c.args.i c.args.j c.args.bound c.loop-p.p q _ c.requires.few c.requires.i c.requires.j hp hq c.requires.reach c.requires.closed c.requires.cycle (simp to_z-of_z at c.loop-p.invariant) (omega (arith, ints))

pub loop-p-preserved : goal.loop-p-preserved
loop-p-preserved c =
    let hp : c.loop-p.p ≤ c.args.vars = omega arith in
    let here = c.loop-p.invariant.reach (18 * c.loop-p.p + c.args.i) in
    let l = here.low in let h = here.high in
    let bl = c.requires.bound.low in let bh = c.requires.bound.high in
    let fits : FitsSigned w128 c.args.bound = c.ranges.bound in
    elim c.if-through-bounds.branch [
      | then-through-bounds w ↦ rw w.bounds-is (simp to_z-of_z (rows_more _ _ _ _ _ _ c.args.bound _ _ c.requires.few c.requires.i hp c.requires.cycle (simp to_z-of_z at c.loop-p.invariant) (omega (arith, ints)) (search rules) w.lower_row.ensures.reach w.lower_row.ensures.row w.lower_row.ensures.others))
      | else-through-bounds w ↦ rw w.bounds-is (simp to_z-of_z (rows_skip _ _ _ _ _ c.args.bound _ (bound_at c.loop-p.bounds c.loop-p.p c.args.i +ℤ c.args.bound) c.requires.few c.requires.i c.requires.j hp c.requires.closed (simp to_z-of_z at c.loop-p.invariant) (omega (arith, ints)) (omega (arith, ints, w.if-through-bounds.false))))
    ]

pub returns : goal.returns
returns c =
    let fits : FitsSigned w128 c.args.bound = c.ranges.bound in
    simp to_z-of_z at (rows_done _ _ _ _ _ _ _ (omega arith) c.requires.outside c.loop-p.invariant)
