-- Assignments keep points.
use Rattle.std.proofs.Common.{◌∙◌, ◌≡◌, ◌≢◌, ℕ, ◌+◌, ◌≤◌, ◌<◌, ℤ, pos, ◌*ℤ◌, ◌≤ℤ◌, unsigned_abs, FitsSigned, arith, ⊎_elim, sym, subst, refl}
use Rattle.std.specs.Int.{w64}
use Rattle.std.proofs.Math.Nat.{mul-le-mul_right}
use Rattle.std.proofs.lemmas.Int.{ints, unsigned_abs-mul}
use Rattle.std.proofs.lemmas.Bool.{cases_eq}
use Rattle.vmv_zone.specs.declared.zone.Zone.{Zone}
use Rattle.vmv_zone.specs.declared.operand.ZoneOperand.{ZoneOperand}
use Rattle.vmv_zone.specs.declared.operand.ZoneOperand.TheVariants.{Lit, Var}
use Rattle.vmv_zone.specs.declared.operand.ZoneOp.{ZoneOp}
use Rattle.vmv_zone.specs.declared.operand.ZoneOp.TheVariants.{Add, Sub, Mul, Div, Rem}
use Rattle.vmv_zone.specs.declared.operand.ZoneValue.{ZoneValue}
use Rattle.vmv_zone.specs.declared.operand.ZoneValue.TheVariants.{Copy, Arith, Within}
use Rattle.vmv_zone.specs.Bounds.{moved}
use Rattle.vmv_zone.specs.Zone.{mark_of, HasPoint}
use Rattle.vmv_zone.specs.Operand.{value_at, up, low, IsOperand}
use Rattle.vmv_zone.specs.Ends.{IsEndProduct, IsEndQuotient}
use Rattle.vmv_zone.specs.Points.{Results, Gives, updated}
use Rattle.vmv_zone.specs.Step.{IsAmong, Computed, Given, IsAssigned, IsOperandOf, Drops}
use Rattle.vmv_zone.proofs.Confining.{true_along, false_along}
use Rattle.vmv_zone.proofs.Words.{operand_more}
use Rattle.vmv_zone.proofs.PointStates.{PointState, point_state, point_normal, point_below, below_point}
use Rattle.vmv_zone.proofs.GuardLaws.{point_dif, state_dif, state_nonzero, point_nonzero, norm_point}
use Rattle.vmv_zone.proofs.Quotients.{IsBetween, between_products, between_quotients, between_remainders, nonzero_abs}

-- the values of x at points are between its ends
value_between : (m : Zone) (q : ℕ → ℤ) (x : ZoneOperand) → HasPoint m q → IsOperand m.vars x → (low m x ≤ℤ value_at q x) × (value_at q x ≤ℤ up m x)
value_between m q x point hx =
    let h = point_dif m q x (Lit (pos 0)) point hx tt in
    let h' = point_dif m q (Lit (pos 0)) x point tt hx in
    (omega (arith, ints), omega (arith, ints))

among_point : {v : ℕ} {q : ℕ → ℤ} (s : PointState v q) (t : ZoneOperand) (Is : ℤ → Type 0) (w : ℤ) → q 0 ≡ pos 0 → IsOperand v t → value_at q t ≡ w → IsBetween Is w → IsAmong s.state t Is
among_point s t Is w origin ht e h =
    let a = state_dif s t (Lit (pos 0)) origin ht tt in
    let b = state_dif s (Lit (pos 0)) t origin tt ht in
    record {
      least = (h.least.0, (h.least.1.0, (let l = h.least.1.1 in omega (arith, ints))));
      greatest = (h.greatest.0, (h.greatest.1.0, (let g = h.greatest.1.1 in omega (arith, ints))));
    }

product_off_zero : (a b : ℤ) → a ≢ pos 0 → b ≢ pos 0 → a *ℤ b ≢ pos 0
product_off_zero a b ha hb e =
    let one : 1 ≤ unsigned_abs a = nonzero_abs a ha in
    let two : 1 ≤ unsigned_abs b = nonzero_abs b hb in
    let size = unsigned_abs-mul a b in
    let more = mul-le-mul_right (unsigned_abs b) one in
    let none : unsigned_abs (a *ℤ b) ≡ 0 = rw e refl in
    omega (arith, size, more)

computed_point : (op : ZoneOp) (m : Zone) {v : ℕ} {q : ℕ → ℤ} (s : PointState v q) (t x y : ZoneOperand) → m.vars ≤ v → IsOperand v t → IsOperand m.vars x → IsOperand m.vars y →
    HasPoint m q → Results op (value_at q x) (value_at q y) (value_at q t) → Computed op m s.state t x y
computed_point Add m {v = v} {q = q} s t x y more ht hx hy point is =
    let hx' = operand_more m.vars v x more hx in
    let hy' = operand_more m.vars v y more hy in
    let origin = point.zero in
    let bx = value_between m q x point hx in
    let by = value_between m q y point hy in
    let bx0 = bx.0 in let bx1 = bx.1 in let by0 = by.0 in let by1 = by.1 in
    let t0 = state_dif s t (Lit (pos 0)) origin ht tt in
    let zt = state_dif s (Lit (pos 0)) t origin tt ht in
    let tx = state_dif s t x origin ht hx' in
    let xt = state_dif s x t origin hx' ht in
    let ty = state_dif s t y origin ht hy' in
    let yt = state_dif s y t origin hy' ht in
    record {
      whole = record { high = omega (arith, ints); low = omega (arith, ints) };
      left = record { high = omega (arith, ints); low = omega (arith, ints) };
      right = record { high = omega (arith, ints); low = omega (arith, ints) };
    }
computed_point Sub m {v = v} {q = q} s t x y more ht hx hy point is =
    let hx' = operand_more m.vars v x more hx in
    let origin = point.zero in
    let by = value_between m q y point hy in
    let by0 = by.0 in let by1 = by.1 in
    let d = point_dif m q x y point hx hy in
    let d' = point_dif m q y x point hy hx in
    let t0 = state_dif s t (Lit (pos 0)) origin ht tt in
    let zt = state_dif s (Lit (pos 0)) t origin tt ht in
    let tx = state_dif s t x origin ht hx' in
    let xt = state_dif s x t origin hx' ht in
    record {
      whole = record { high = omega (arith, ints); low = omega (arith, ints) };
      left = record { high = omega (arith, ints); low = omega (arith, ints) };
    }
computed_point Mul m {q = q} s t x y more ht hx hy point is =
    let bx = value_between m q x point hx in
    let by = value_between m q y point hy in
    let b = between_products (low m x) (up m x) (low m y) (up m y) (value_at q x) (value_at q y) bx.0 bx.1 by.0 by.1 in
    record {
      whole = among_point s t (IsEndProduct (low m x) (up m x) (low m y) (up m y)) _ point.zero ht is b;
      marked = λ kx ky. state_nonzero s t ht (λ e. product_off_zero (value_at q x) (value_at q y) (point_nonzero m q x point hx kx) (point_nonzero m q y point hy ky) (sym is ∙ e));
    }
computed_point Div m {v = v} {q = q} s t x y more ht hx hy point is =
    let bx = value_between m q x point hx in
    let by = value_between m q y point hy in
    let b = between_quotients (low m x) (up m x) (low m y) (up m y) (value_at q x) (value_at q y) bx.0 bx.1 by.0 by.1 is.0 in
    record {
      divisor = state_nonzero s y (operand_more m.vars v y more hy) is.0;
      whole = among_point s t (IsEndQuotient (low m x) (up m x) (low m y) (up m y)) _ point.zero ht is.1 b;
    }
computed_point Rem m {v = v} {q = q} s t x y more ht hx hy point is =
    let bx = value_between m q x point hx in
    let by = value_between m q y point hy in
    let b = between_remainders (low m x) (up m x) (low m y) (up m y) (value_at q x) (value_at q y) bx.0 bx.1 by.0 by.1 is.0 in
    let b0 = b.0 in let b1 = b.1 in
    let e = is.1 in
    let t0 = state_dif s t (Lit (pos 0)) point.zero ht tt in
    let zt = state_dif s (Lit (pos 0)) t point.zero tt ht in
    let hi : up s.state t ≡ value_at q t = omega (arith, ints) in
    let lo : low s.state t ≡ value_at q t = omega (arith, ints) in
    record {
      divisor = state_nonzero s y (operand_more m.vars v y more hy) is.0;
      least = rw (lo, e) b0;
      greatest = rw (hi, e) b1;
    }

given_point : (value : ZoneValue) (m : Zone) {v : ℕ} {q : ℕ → ℤ} (s : PointState v q) (t : ZoneOperand) → m.vars ≤ v → IsOperand v t → IsOperandOf value m.vars →
    HasPoint m q → Gives value q (value_at q t) → Given value m s.state t
given_point (Copy x) m {v = v} {q = q} s t more ht hx point is =
    let hx' = operand_more m.vars v x more hx in
    let tx = state_dif s t x point.zero ht hx' in
    let xt = state_dif s x t point.zero hx' ht in
    record {
      same = record { high = omega (arith, ints); low = omega (arith, ints) };
      marked = λ k. state_nonzero s t ht (λ e. point_nonzero m q x point hx k (sym is ∙ e));
    }
given_point (Arith op x y) m s t more ht h point is = computed_point op m s t x y more ht h.0 h.1 point is
given_point (Within c) m {q = q} s t more ht h point is =
    let above = is.above in
    let below = is.below in
    let t0 = state_dif s t (Lit (pos 0)) point.zero ht tt in
    let zt = state_dif s (Lit (pos 0)) t point.zero tt ht in
    record {
      whole = record { high = omega (arith, ints); low = omega (arith, ints) };
      marked = λ k. state_nonzero s t ht (is.nonzero k);
    }

-- a point is its values at the variables
same_point : (z : Zone) (p q : ℕ → ℤ) → ((i : ℕ) → i ≤ z.vars → q i ≡ p i) → HasPoint z p → HasPoint z q
same_point z p q same point = record {
  not_bottom = point.not_bottom;
  zero = same 0 (omega arith) ∙ point.zero;
  words = λ i hi. rw (same i hi) (point.words i hi);
  bounds = λ i j hi hj. rw (same i hi, same j hj) (point.bounds i j hi hj);
  marks = λ i from hi marked. rw (same i hi) (point.marks i from hi marked);
}

moved_inside : (to last i : ℕ) → i < last → moved to last i ≤ last
moved_inside to last i h = grind arith

moved_variable : (to last i : ℕ) → 1 ≤ i → i < last → 1 ≤ moved to last i
moved_variable to last i from h = grind arith

moved_zero : (to last : ℕ) → 1 ≤ to → moved to last 0 ≡ 0
moved_zero to last h = grind arith

drop_point : (to : ℕ) (e r : Zone) (q : ℕ → ℤ) → Drops to e r → 1 ≤ to → HasPoint e q → HasPoint r (λ i. q (moved to e.vars i))
drop_point to e r q drops from point = record {
  not_bottom = false_along e.bottom r.bottom (sym drops.bottom) point.not_bottom;
  zero = rw (moved_zero to e.vars from) point.zero;
  words = λ i hi. point.words (moved to e.vars i) (moved_inside to e.vars i (omega (arith, drops.vars)));
  bounds = λ i j hi hj.
      let b = point.bounds (moved to e.vars i) (moved to e.vars j) (moved_inside to e.vars i (omega (arith, drops.vars))) (moved_inside to e.vars j (omega (arith, drops.vars))) in
      rw (drops.bounds i j hi hj) b;
  marks = λ i variable hi marked. point.marks (moved to e.vars i) (moved_variable to e.vars i variable (omega (arith, drops.vars))) (moved_inside to e.vars i (omega (arith, drops.vars)))
      (true_along (mark_of r i) (mark_of e (moved to e.vars i)) (drops.marks i variable hi) marked);
}

updated_other : (p : ℕ → ℤ) (to i : ℕ) (w : ℤ) → i ≢ to → updated p to w i ≡ p i
updated_other p to i w h = grind arith

updated_same : (p : ℕ → ℤ) (to : ℕ) (w : ℤ) → updated p to w to ≡ w
updated_same p to w = grind arith

moved_value : (p : ℕ → ℤ) (to last i : ℕ) (w : ℤ) → i < last → updated p to w i ≡ updated p last w (moved to last i)
moved_value p to last i w h = grind arith

same_value : (p : ℕ → ℤ) (vars : ℕ) (w : ℤ) (x : ZoneOperand) → IsOperand vars x → value_at (updated p (vars + 1) w) x ≡ value_at p x
same_value p vars w (Lit c) h = refl
same_value p vars w (Var y) h = updated_other p (vars + 1) y w (let hi = h.1 in omega arith)

same_results : (op : ZoneOp) (x y w x' y' w' : ℤ) → x ≡ x' → y ≡ y' → w ≡ w' → Results op x y w → Results op x' y' w'
same_results op x y w x' y' w' ex ey ew h = rw (sym ex, sym ey, sym ew) h

same_gives : (value : ZoneValue) (p : ℕ → ℤ) (vars : ℕ) (w w' : ℤ) → IsOperandOf value vars → w' ≡ w → Gives value p w → Gives value (updated p (vars + 1) w) w'
same_gives (Copy x) p vars w w' h e is = e ∙ is ∙ sym (same_value p vars w x h)
same_gives (Arith op x y) p vars w w' h e is = same_results op _ _ w _ _ w' (sym (same_value p vars w x h.0)) (sym (same_value p vars w y h.1)) (sym e) is
same_gives (Within c) p vars w w' h e is = rw e is

pub assign_point : (z r : Zone) (to : ℕ) (value : ZoneValue) (p : ℕ → ℤ) (w : ℤ) → z.vars ≤ 16 → 1 ≤ to → to ≤ z.vars → IsOperandOf value z.vars →
    IsAssigned z to value r → HasPoint z p → Gives value p w → FitsSigned w64 w → HasPoint r (updated p to w)
assign_point z r to value p w few from hto operands assigned point gives fits =
    let m = assigned.before in
    let e = assigned.fresh in
    let last = z.vars + 1 in
    let vars = assigned.norm.vars in
    let q : ℕ → ℤ = updated p (z.vars + 1) w in
    let here : HasPoint m p = norm_point z m p assigned.norm point in
    let at_q : HasPoint m q = same_point m p q (λ i hi. updated_other p (z.vars + 1) i w (omega arith)) here in
    let words : (k : ℕ) → k ≤ z.vars + 1 → FitsSigned w64 (q k) = λ k hk. ⊎_elim
    (λ (same : k ≡ z.vars + 1). rw (same, updated_same p (z.vars + 1) w) fits)
    (λ (other : k ≢ z.vars + 1). at_q.words k (omega arith)) (cases_eq k (z.vars + 1)) in
    let s : PointState (z.vars + 1) q = point_state (z.vars + 1) q (omega arith) at_q.zero words in
    let operands' : IsOperandOf value m.vars = (let P : ℕ → Type 0 = λ k. IsOperandOf value k in subst P (sym vars) operands) in
    let given = given_point value m s (Var (z.vars + 1)) (omega arith) (omega arith, omega arith) operands' at_q
    (same_gives value p z.vars w (q (z.vars + 1)) operands (updated_same p (z.vars + 1) w) gives) in
    let tight = assigned.greatest.greatest s.state s.vars (point_normal s at_q.zero) (λ up. point_below s m (omega arith) at_q) (λ up. given) s.up in
    let fresh : HasPoint e q = below_point s e assigned.greatest.vars at_q.zero words tight in
    let last_is : e.vars ≡ z.vars + 1 = assigned.greatest.vars in
    same_point r (λ i. q (moved to e.vars i)) (updated p to w)
    (λ i hi. rw last_is (moved_value p to (z.vars + 1) i w (omega (arith, assigned.drops.vars))))
    (drop_point to e r q assigned.drops from fresh)
