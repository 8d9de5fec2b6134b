-- The state with a variable dropped, and the one after an assignment.
use Rattle.std.proofs.Common.{◌≡◌, ◌≢◌, ◌^◌, ◌-◌, ℕ, ◌+◌, ◌*◌, ◌≤◌, ◌<◌, pos, ◌≤ℤ◌, arith, ⊎_elim, sym, ◌∙◌}
use Rattle.std.proofs.lemmas.Int.{ints}
use Rattle.std.proofs.lemmas.Bool.{cases_eq}
use Rattle.vmv_zone.specs.declared.zone.Zone.{Zone}
use Rattle.vmv_zone.specs.declared.operand.ZoneOperand.TheVariants.{Var}
use Rattle.vmv_zone.specs.declared.operand.ZoneValue.{ZoneValue}
use Rattle.vmv_zone.specs.Bounds.{top_bound, moved, dropped_bound}
use Rattle.vmv_zone.specs.Zone.{mark_of}
use Rattle.vmv_zone.specs.Step.{Drops, IsAssigned, Given}
use Rattle.vmv_zone.proofs.AssignOrder.{moved_inside, moved_variable}
use Rattle.vmv_zone.proofs.Equal.{by_truth}
use Rattle.vmv_zone.proofs.Filled.{top_in_reach, dropped_in_reach}
use Rattle.vmv_states_exist.proofs.Tables.{AreBounds, table, table_mark, same_truth}
use Rattle.vmv_states_exist.proofs.Empty.{none, none_vars, none_bottom}
use Rattle.vmv_states_exist.proofs.Greatest.{greatest_exists, norm_exists}
use Rattle.vmv_states_exist.proofs.Kept.{given_kept}

moved_zero : (to last : ℕ) → 1 ≤ to → moved to last 0 ≡ 0
moved_zero to last from = grind arith

top_self : (i : ℕ) → top_bound i i ≡ pos 0
top_self i = grind arith

top_from : (i : ℕ) → 1 ≤ i → top_bound i 0 ≡ pos (2 ^ 63 - 1)
top_from i h = grind arith

top_to : (j : ℕ) → 1 ≤ j → top_bound 0 j ≡ pos (2 ^ 63)
top_to j h = grind arith

top_most : (i j : ℕ) → i ≢ j → 1 ≤ i → 1 ≤ j → top_bound i j ≡ pos (2 ^ 64 - 1)
top_most i j h k l = grind arith

-- top's bound on other names is no higher
top_moved : (to last i j : ℕ) → 1 ≤ to → i < last → j < last → top_bound (moved to last i) (moved to last j) ≤ℤ top_bound i j
top_moved to last i j from hi hj =
    let zero_is = moved_zero to last from in
    ⊎_elim
    (λ (same : i ≡ j). rw same (let e = top_self (moved to last j) in let e' = top_self j in omega (arith, ints)))
    (λ (differ : i ≢ j). ⊎_elim
    (λ (at : j ≡ 0). rw (at, zero_is) (let e = top_from (moved to last i) (moved_variable to last i (omega arith) (omega arith)) in let e' = top_from i (omega arith) in omega (arith, ints)))
    (λ (off : j ≢ 0). ⊎_elim
    (λ (at : i ≡ 0). rw (at, zero_is) (let e = top_to (moved to last j) (moved_variable to last j (omega arith) (omega arith)) in let e' = top_to j (omega arith) in omega (arith, ints)))
    (λ (off' : i ≢ 0). let e = (top_in_reach (moved to last i) (moved to last j)).high in let e' = top_most i j differ (omega arith) (omega arith) in omega (arith, ints))
    (cases_eq i 0))
    (cases_eq j 0))
    (cases_eq i j)

dropped_bounds_are : (z : Zone) (to vars : ℕ) → 1 ≤ to → z.vars ≡ vars + 1 → AreBounds (dropped_bound z.bounds to z.vars) vars
dropped_bounds_are z to vars from e = record {
  reach = λ i j hi hj. dropped_in_reach z.bounds to z.vars z.reach i j;
  topped = λ i j hi hj.
      let one = z.topped (moved to z.vars i) (moved to z.vars j) (moved_inside to z.vars i (omega (arith, e))) (moved_inside to z.vars j (omega (arith, e))) in
      let two = top_moved to z.vars i j from (omega (arith, e)) (omega (arith, e)) in
      omega (arith, ints);
}

drop_exists : (z : Zone) (to vars : ℕ) → 1 ≤ to → z.vars ≡ vars + 1 → (r : Zone) × Drops to z r
drop_exists z to vars from e = by_truth z.bottom
    (λ bottom.
    let few : vars ≤ 17 = let f = z.few in omega arith in
    let r = none vars few in
    let blank = z.emptied bottom in
    let blank' = r.emptied (none_bottom vars few) in (
      r,
      record {
        vars = let v = none_vars vars few in omega (arith, v);
        bottom = none_bottom vars few ∙ sym bottom;
        bounds = λ i j hi hj. blank'.zeros (18 * i + j) ∙ sym (blank.zeros (18 * moved to z.vars i + moved to z.vars j));
        marks = λ i from' hi. same_truth (mark_of r i) (mark_of z (moved to z.vars i)) (λ m. absurd (blank'.unmarked i m)) (λ m. absurd (blank.unmarked (moved to z.vars i) m));
      },
    ))
    (λ up.
    let few : vars ≤ 17 = let f = z.few in omega arith in
    let t = table (dropped_bound z.bounds to z.vars) (λ i. mark_of z (moved to z.vars i)) vars few (dropped_bounds_are z to vars from e) in (
      t.state,
      record {
        vars = let v = t.vars in omega (arith, v);
        bottom = t.up ∙ sym up;
        bounds = λ i j hi hj. let v = t.vars in t.bounds i j (omega arith) (omega arith);
        marks = λ i from' hi. let v = t.vars in table_mark t i from' (omega arith);
      },
    ))

pub assignment_exists : (z : Zone) (to : ℕ) (value : ZoneValue) → z.vars ≤ 16 → 1 ≤ to → ¬ (¬ ((r : Zone) × IsAssigned z to value r))
assignment_exists z to value few from missing = norm_exists z (λ n.
    greatest_exists (z.vars + 1) n.0 (λ m. Given value n.0 m (Var (z.vars + 1))) (omega arith) (given_kept value n.0 (Var (z.vars + 1)))
    (λ g.
    let r = drop_exists g.0 to z.vars from g.1.vars in
    missing (r.0, record { before = n.0; norm = n.1; fresh = g.0; greatest = g.1; drops = r.1 })))
