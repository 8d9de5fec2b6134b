use Rattle.std.proofs.Common.{arith, rules, ◌≡◌, ◌+◌, ◌*◌, ◌≤◌, pos, ◌+ℤ◌, ◌≤ℤ◌, ℕ, FitsSigned}
use Rattle.std.specs.Int.{int_min, w128}
use Rattle.std.proofs.lemmas.Int.{ints, to_z-of_z}
use Rattle.vmv_zone.specs.Bounds.{bound_at, IsClosed}
use Rattle.vmv_zone.specs.Change.{Settles}
use Rattle.vmv_zone.proofs.Rows.{rows_more}
use Rattle.vmv_zone.proofs.Shortest.{settles_on}
use Rattle.vmv_zone.proofs.paths.relax_through.Goals as goal

pub loop-p-preserved : goal.loop-p-preserved
loop-p-preserved c =
    let hp : c.loop-p.p ≤ c.args.vars = omega arith in
    let here = c.loop-p.invariant.rows.reach (18 * c.loop-p.p + c.args.j) in
    let l = here.low in let h = here.high in
    let fits : FitsSigned w128 (bound_at c.loop-p.bounds c.loop-p.p c.args.j) = omega (arith, ints) in
    let ensured = c.if-not-relax_row.ensures in
    let row : (q : ℕ) → q ≤ c.args.vars → bound_at c.relax_row.new.bounds c.loop-p.p q ≡ int_min (bound_at c.loop-p.bounds c.loop-p.p q) (bound_at c.loop-p.bounds c.loop-p.p c.args.j +ℤ bound_at c.loop-p.bounds c.args.j q) =
    simp to_z-of_z at (ensured.row (search rules)) in
    let settles : Settles (λ n. IsClosed n c.args.vars × (n c.loop-p.p c.args.j ≤ℤ bound_at c.loop-p.bounds c.loop-p.p c.args.j)) c.args.vars c.loop-p.bounds c.relax_row.new.bounds = simp to_z-of_z at ensured.settles in
    record {
      rows = rows_more _ _ _ _ _ _ (pos 0) _ (bound_at c.loop-p.bounds c.loop-p.p c.args.j) c.requires.vars c.requires.j hp (omega (arith, ints)) c.loop-p.invariant.rows (omega (arith, ints)) ensured.full settles.reach row (ensured.others (search rules));
      settles = settles_on _ _ (λ n. IsClosed n c.args.vars) _ _ _ _ (λ n closed. closed) (λ n closed below. (closed, below c.loop-p.p c.args.j hp c.requires.j)) c.loop-p.invariant.settles settles;
    }

pub returns-then-not-relax_row-clause-settles : goal.returns-then-not-relax_row-clause-settles
returns-then-not-relax_row-clause-settles c =
    let hp : c.loop-p.p ≤ c.args.vars = omega arith in
    let here = c.loop-p.invariant.rows.reach (18 * c.loop-p.p + c.args.j) in
    let l = here.low in let h = here.high in
    let fits : FitsSigned w128 (bound_at c.loop-p.bounds c.loop-p.p c.args.j) = omega (arith, ints) in
    let settles : Settles (λ n. IsClosed n c.args.vars × (n c.loop-p.p c.args.j ≤ℤ bound_at c.loop-p.bounds c.loop-p.p c.args.j)) c.args.vars c.loop-p.bounds c.relax_row.new.bounds = simp to_z-of_z at c.if-not-relax_row.ensures.settles in
    settles_on _ _ (λ n. IsClosed n c.args.vars) _ _ _ _ (λ n closed. closed) (λ n closed below. (closed, below c.loop-p.p c.args.j hp c.requires.j)) c.loop-p.invariant.settles settles

pub returns-then-not-relax_row-clause-empty : goal.returns-then-not-relax_row-clause-empty
returns-then-not-relax_row-clause-empty c t n closed below =
    let hp : c.loop-p.p ≤ c.args.vars = omega arith in
    let reach = c.loop-p.invariant.rows.reach (18 * c.loop-p.p + c.args.j) in
    let l = reach.low in let h = reach.high in
    let fits : FitsSigned w128 (bound_at c.loop-p.bounds c.loop-p.p c.args.j) = omega (arith, ints) in
    let here = c.loop-p.invariant.settles.below n closed below in
    c.if-not-relax_row.ensures.empty (search rules) n closed (simp to_z-of_z (here c.loop-p.p c.args.j hp c.requires.j)) here
