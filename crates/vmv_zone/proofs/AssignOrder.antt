-- Assignments keep the order of states.
use Rattle.std.proofs.Common.{◌∙◌, ◌≡◌, ℕ, ◌+◌, ◌≤◌, ◌<◌, ℤ, pos, negsuc, ◌-ℤ◌, ◌≤ℤ◌, max, unsigned_abs, arith, ⊎_elim, sym, subst}
use Rattle.std.specs.Int.{int_min, int_max}
use Rattle.std.proofs.lemmas.Int.{ints, clamps}
use Rattle.vmv_zone.specs.declared.zone.Zone.{Zone}
use Rattle.vmv_zone.specs.declared.operand.ZoneOperand.{ZoneOperand}
use Rattle.vmv_zone.specs.declared.operand.ZoneOperand.TheVariants.{Lit, Var}
use Rattle.vmv_zone.specs.declared.operand.ZoneOp.{ZoneOp}
use Rattle.vmv_zone.specs.declared.operand.ZoneOp.TheVariants.{Add, Sub, Mul, Div, Rem}
use Rattle.vmv_zone.specs.declared.operand.ZoneValue.{ZoneValue}
use Rattle.vmv_zone.specs.declared.operand.ZoneValue.TheVariants.{Copy, Arith, Within}
use Rattle.vmv_zone.specs.Bounds.{moved}
use Rattle.vmv_zone.specs.Zone.{bound_of, mark_of, HasNormalBounds, IsTighter, IsBelow}
use Rattle.vmv_zone.specs.Operand.{thing, up, low, IsOperand}
use Rattle.vmv_zone.specs.Ends.{IsEnd, IsEndProduct, IsEndQuotient}
use Rattle.vmv_zone.specs.Step.{IsAmong, Computed, Given, IsAssigned, IsOperandOf, Drops}
use Rattle.vmv_zone.proofs.Confining.{true_along, false_along}
use Rattle.vmv_zone.proofs.Operands.{thing_inside}
use Rattle.vmv_zone.proofs.States.{below_trans, norm_mono}
use Rattle.vmv_zone.proofs.GuardLaws.{dif_mono, nonzero_mono}
use Rattle.vmv_zone.proofs.Quotients.{IsBetween, between_products, between_quotients, abs_between}

-- the ends of x in a normal state, inside those in a higher one
pub record AreInside (a b c d : ℤ) : Type 0 where
  pub low : c ≤ℤ a
  pub order : a ≤ℤ b
  pub high : b ≤ℤ d

ends_inside : (m m' : Zone) (x : ZoneOperand) → IsTighter m m' → HasNormalBounds m → m.vars ≡ m'.vars → IsOperand m'.vars x → AreInside (low m x) (up m x) (low m' x) (up m' x)
ends_inside m m' x tight normal same hx =
    let inside : thing x ≤ m.vars = (let h = thing_inside m'.vars x hx in omega arith) in
    let one = dif_mono m m' x (Lit (pos 0)) tight hx tt in
    let two = dif_mono m m' (Lit (pos 0)) x tight tt hx in
    let path = normal.tight.closed.paths (thing x) 0 (thing x) inside (omega arith) inside in
    let self = normal.tight.closed.self (thing x) inside in
    record { low = omega (arith, ints); order = omega (arith, ints); high = omega (arith, ints) }

end_inside : (a b c d e : ℤ) → AreInside a b c d → IsEnd a b e → (c ≤ℤ e) × (e ≤ℤ d)
end_inside a b c d e h is =
    let l = h.low in let o = h.order in let g = h.high in
    ⊎_elim (λ (at : e ≡ a). (omega (arith, ints), omega (arith, ints))) (λ (at : e ≡ b). (omega (arith, ints), omega (arith, ints))) is

among_mono : (n : Zone) (t : ZoneOperand) (Is Is' : ℤ → Type 0) → ((q : ℤ) → Is q → IsBetween Is' q) → IsAmong n t Is → IsAmong n t Is'
among_mono n t Is Is' sub h =
    let one = sub h.least.0 h.least.1.0 in
    let two = sub h.greatest.0 h.greatest.1.0 in
    let l = h.least.1.1 in
    let l' = one.least.1.1 in
    let g = h.greatest.1.1 in
    let g' = two.greatest.1.1 in
    record { least = (one.least.0, (one.least.1.0, omega (arith, ints))); greatest = (two.greatest.0, (two.greatest.1.0, omega (arith, ints))) }

products_inside : (a b c d a' b' c' d' : ℤ) → AreInside a b a' b' → AreInside c d c' d' → (q : ℤ) → IsEndProduct a b c d q → IsBetween (IsEndProduct a' b' c' d') q
products_inside a b c d a' b' c' d' one two q r =
    let x = end_inside a b a' b' r.left one r.left_end in
    let y = end_inside c d c' d' r.right two r.right_end in
    rw r.is (between_products a' b' c' d' r.left r.right x.0 x.1 y.0 y.1)

quotients_inside : (a b c d a' b' c' d' : ℤ) → AreInside a b a' b' → AreInside c d c' d' → (q : ℤ) → IsEndQuotient a b c d q → IsBetween (IsEndQuotient a' b' c' d') q
quotients_inside a b c d a' b' c' d' one two q r =
    let l = two.low in let o = two.order in let g = two.high in
    ⊎_elim
    (λ part.
    let r' = part.1 in
    let negative = part.0 in
    let x = end_inside a b a' b' r'.left one r'.left_end in
    let y : (c ≤ℤ r'.right) × (r'.right ≤ℤ int_min d (negsuc 0)) =
    ⊎_elim (λ (at : r'.right ≡ c). (omega (arith, ints), omega (arith, ints, clamps))) (λ (at : r'.right ≡ int_min d (negsuc 0)). (omega (arith, ints, clamps), omega (arith, ints))) r'.right_end in
    let y0 = y.0 in let y1 = y.1 in
    rw r'.is (between_quotients a' b' c' d' r'.left r'.right x.0 x.1 (omega (arith, ints)) (omega (arith, ints, clamps)) (λ e. omega (arith, ints, clamps))))
    (λ part.
    let r' = part.1 in
    let positive = part.0 in
    let x = end_inside a b a' b' r'.left one r'.left_end in
    let y : (int_max c (pos 1) ≤ℤ r'.right) × (r'.right ≤ℤ d) =
    ⊎_elim (λ (at : r'.right ≡ int_max c (pos 1)). (omega (arith, ints), omega (arith, ints, clamps))) (λ (at : r'.right ≡ d). (omega (arith, ints, clamps), omega (arith, ints))) r'.right_end in
    let y0 = y.0 in let y1 = y.1 in
    rw r'.is (between_quotients a' b' c' d' r'.left r'.right x.0 x.1 (omega (arith, ints, clamps)) (omega (arith, ints)) (λ e. omega (arith, ints, clamps))))
    r

size_inside : (c d c' d' : ℤ) → AreInside c d c' d' → max (unsigned_abs c) (unsigned_abs d) ≤ max (unsigned_abs c') (unsigned_abs d')
size_inside c d c' d' h =
    let l = h.low in let o = h.order in let g = h.high in
    let one = abs_between c' d' c (omega (arith, ints)) (omega (arith, ints)) in
    let two = abs_between c' d' d (omega (arith, ints)) (omega (arith, ints)) in
    omega (arith, one, two)

least_remainder_inside : (a a' : ℤ) (s s' : ℕ) (v : ℤ) → a' ≤ℤ a → s ≤ s' → int_max (int_min a (pos 0)) (pos 1 -ℤ pos s) ≤ℤ v → int_max (int_min a' (pos 0)) (pos 1 -ℤ pos s') ≤ℤ v
least_remainder_inside a a' s s' v low size h = omega (arith, ints, clamps)

greatest_remainder_inside : (b b' : ℤ) (s s' : ℕ) (v : ℤ) → b ≤ℤ b' → s ≤ s' → v ≤ℤ int_min (int_max b (pos 0)) (pos s -ℤ pos 1) → v ≤ℤ int_min (int_max b' (pos 0)) (pos s' -ℤ pos 1)
greatest_remainder_inside b b' s s' v high size h = omega (arith, ints, clamps)

computed_mono : (op : ZoneOp) (m m' n : Zone) (t x y : ZoneOperand) → IsTighter m m' → HasNormalBounds m → m.vars ≡ m'.vars → IsOperand m'.vars x → IsOperand m'.vars y →
    Computed op m n t x y → Computed op m' n t x y
computed_mono Add m m' n t x y tight normal same hx hy h =
    let ex = ends_inside m m' x tight normal same hx in
    let ey = ends_inside m m' y tight normal same hy in
    let xl = ex.low in let xh = ex.high in let yl = ey.low in let yh = ey.high in
    let w = h.whole.high in let w' = h.whole.low in
    let l = h.left.high in let l' = h.left.low in
    let r = h.right.high in let r' = h.right.low in
    record {
      whole = record { high = omega (arith, ints); low = omega (arith, ints) };
      left = record { high = omega (arith, ints); low = omega (arith, ints) };
      right = record { high = omega (arith, ints); low = omega (arith, ints) };
    }
computed_mono Sub m m' n t x y tight normal same hx hy h =
    let ey = ends_inside m m' y tight normal same hy in
    let yl = ey.low in let yh = ey.high in
    let d = dif_mono m m' x y tight hx hy in
    let d' = dif_mono m m' y x tight hy hx in
    let w = h.whole.high in let w' = h.whole.low in
    let l = h.left.high in let l' = h.left.low in
    record {
      whole = record { high = omega (arith, ints); low = omega (arith, ints) };
      left = record { high = omega (arith, ints); low = omega (arith, ints) };
    }
computed_mono Mul m m' n t x y tight normal same hx hy h =
    let ex = ends_inside m m' x tight normal same hx in
    let ey = ends_inside m m' y tight normal same hy in
    record {
      whole = among_mono n t (IsEndProduct (low m x) (up m x) (low m y) (up m y)) (IsEndProduct (low m' x) (up m' x) (low m' y) (up m' y))
          (products_inside (low m x) (up m x) (low m y) (up m y) (low m' x) (up m' x) (low m' y) (up m' y) ex ey) h.whole;
      marked = λ kx ky. h.marked (nonzero_mono m m' x tight hx kx) (nonzero_mono m m' y tight hy ky);
    }
computed_mono Div m m' n t x y tight normal same hx hy h =
    let ex = ends_inside m m' x tight normal same hx in
    let ey = ends_inside m m' y tight normal same hy in
    record {
      divisor = h.divisor;
      whole = among_mono n t (IsEndQuotient (low m x) (up m x) (low m y) (up m y)) (IsEndQuotient (low m' x) (up m' x) (low m' y) (up m' y))
          (quotients_inside (low m x) (up m x) (low m y) (up m y) (low m' x) (up m' x) (low m' y) (up m' y) ex ey) h.whole;
    }
computed_mono Rem m m' n t x y tight normal same hx hy h =
    let ex = ends_inside m m' x tight normal same hx in
    let ey = ends_inside m m' y tight normal same hy in
    let size = size_inside (low m y) (up m y) (low m' y) (up m' y) ey in
    record {
      divisor = h.divisor;
      least = least_remainder_inside (low m x) (low m' x) (max (unsigned_abs (low m y)) (unsigned_abs (up m y))) (max (unsigned_abs (low m' y)) (unsigned_abs (up m' y))) (low n t) ex.low size h.least;
      greatest = greatest_remainder_inside (up m x) (up m' x) (max (unsigned_abs (low m y)) (unsigned_abs (up m y))) (max (unsigned_abs (low m' y)) (unsigned_abs (up m' y))) (up n t) ex.high size h.greatest;
    }

given_mono : (value : ZoneValue) (m m' n : Zone) (t : ZoneOperand) → IsTighter m m' → HasNormalBounds m → m.vars ≡ m'.vars → IsOperandOf value m'.vars → Given value m n t → Given value m' n t
given_mono (Copy x) m m' n t tight normal same hx h = record { same = h.same; marked = λ k. h.marked (nonzero_mono m m' x tight hx k) }
given_mono (Arith op x y) m m' n t tight normal same hxy h = computed_mono op m m' n t x y tight normal same hxy.0 hxy.1 h
given_mono (Within c) m m' n t tight normal same hx h = h

pub moved_inside : (to last i : ℕ) → i < last → moved to last i ≤ last
moved_inside to last i h = grind arith

pub moved_variable : (to last i : ℕ) → 1 ≤ i → i < last → 1 ≤ moved to last i
moved_variable to last i from h = grind arith

-- lower states are lower without one variable
pub drop_mono : (to : ℕ) (a a' b b' : Zone) → a.vars ≡ b.vars → Drops to a a' → Drops to b b' → IsBelow a b → IsBelow a' b'
drop_mono to a a' b b' same one two below up =
    let here = below (false_along a'.bottom a.bottom one.bottom up) in
    record {
      not_bottom = false_along b.bottom b'.bottom (sym two.bottom) here.not_bottom;
      bounds = λ i j hi hj.
          let was = here.bounds (moved to b.vars i) (moved to b.vars j) (moved_inside to b.vars i (omega (arith, two.vars))) (moved_inside to b.vars j (omega (arith, two.vars))) in
          let la : bound_of a' i j ≡ bound_of a (moved to b.vars i) (moved to b.vars j) = rw (sym same) (one.bounds i j (omega (arith, same, one.vars, two.vars)) (omega (arith, same, one.vars, two.vars))) in
          rw (la, two.bounds i j hi hj) was;
      marks = λ i from hi marked.
          let was = here.marks (moved to b.vars i) (moved_variable to b.vars i from (omega (arith, two.vars))) (moved_inside to b.vars i (omega (arith, two.vars))) (true_along (mark_of b' i) (mark_of b (moved to b.vars i)) (two.marks i from hi) marked) in
          let la : mark_of a' i ≡ mark_of a (moved to b.vars i) = rw (sym same) (one.marks i from (omega (arith, same, one.vars, two.vars))) in
          true_along (mark_of a (moved to b.vars i)) (mark_of a' i) (sym la) was;
    }

pub assign_mono : (a b r s : Zone) (to : ℕ) (value : ZoneValue) → a.vars ≡ b.vars → 1 ≤ to → IsOperandOf value b.vars → IsAssigned a to value r → IsAssigned b to value s → IsBelow a b → IsBelow r s
assign_mono a b r s to value same from operands one two below =
    let m = one.before in
    let m' = two.before in
    let lower = norm_mono a b m m' same one.norm two.norm below in
    let great = one.greatest in
    let e = one.fresh in
    let e' = two.fresh in
    let vars : m.vars ≡ m'.vars = one.norm.vars ∙ same ∙ sym two.norm.vars in
    let operands' : IsOperandOf value m'.vars = (let P : ℕ → Type 0 = λ k. IsOperandOf value k in subst P (sym two.norm.vars) operands) in
    let last : e.vars ≡ b.vars + 1 = omega (arith, great.vars) in
    let fresh : IsBelow e e' = λ up.
    let under = great.below up in
    let above = lower under.not_bottom in
    let has = great.has up in
    let has' : Given value m e (Var (b.vars + 1)) = (let P : ℕ → Type 0 = λ k. Given value m e (Var (k + 1)) in subst P same has) in
    two.greatest.greatest e last great.normal (below_trans e m m' vars great.below lower)
    (λ up. given_mono value m m' e (Var (b.vars + 1)) above (one.norm.normal under.not_bottom) vars operands' has') up in
    drop_mono to e r e' s (last ∙ sym two.greatest.vars) one.drops two.drops fresh
