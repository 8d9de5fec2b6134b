-- Joins keep what tests and assignments add to a state.
use Rattle.std.proofs.Common.{◌≡◌, ℤ, pos, negsuc, ◌+ℤ◌, ◌-ℤ◌, ◌≤ℤ◌, neg_ℤ, arith, inl, inr, ⊎_elim, ap}
use Rattle.std.proofs.lemmas.Int.{ints}
use Rattle.vmv_zone.specs.declared.zone.Zone.{Zone}
use Rattle.vmv_zone.specs.declared.rel.ZoneRel.{ZoneRel}
use Rattle.vmv_zone.specs.declared.rel.ZoneRel.TheVariants.{Equal, Unequal, Less, AtMost, Greater, AtLeast}
use Rattle.vmv_zone.specs.declared.operand.ZoneOperand.{ZoneOperand}
use Rattle.vmv_zone.specs.declared.operand.ZoneOperand.TheVariants.{Lit, Var}
use Rattle.vmv_zone.specs.declared.operand.ZoneTest.{ZoneTest}
use Rattle.vmv_zone.specs.declared.operand.ZoneOp.{ZoneOp}
use Rattle.vmv_zone.specs.declared.operand.ZoneOp.TheVariants.{Add, Sub, Mul, Div, Rem}
use Rattle.vmv_zone.specs.declared.operand.ZoneValue.{ZoneValue}
use Rattle.vmv_zone.specs.declared.operand.ZoneValue.TheVariants.{Copy, Arith, Within}
use Rattle.vmv_zone.specs.Zone.{bound_of}
use Rattle.vmv_zone.specs.Operand.{thing, shift, dif, up, low, IsNonzero, IsSpan}
use Rattle.vmv_zone.specs.Step.{IsApart, Tested, IsGuarded, IsAmong, Computed, Given}
use Rattle.vmv_states_exist.proofs.Lists.{IsMax}
use Rattle.vmv_states_exist.proofs.Joins.{IsOver, max_by}
use Rattle.vmv_states_exist.proofs.Greatest.{IsKept, greatest_exists, norm_exists}

dif_over : {a b j : Zone} (x y : ZoneOperand) → IsOver a b j → IsMax (dif a x y) (dif b x y) (dif j x y)
dif_over {a = a} {b = b} {j = j} x y over =
    let m = over.bounds (thing x) (thing y) in
    let l = m.left in
    let r = m.right in
    record {
      left = omega (arith, ints);
      right = omega (arith, ints);
      is = ⊎_elim (λ (e : bound_of j (thing x) (thing y) ≡ bound_of a (thing x) (thing y)). inl (ap (λ b. (b +ℤ shift x) -ℤ shift y) e))
          (λ (e : bound_of j (thing x) (thing y) ≡ bound_of b (thing x) (thing y)). inr (ap (λ b. (b +ℤ shift x) -ℤ shift y) e)) m.is;
    }

dif_kept : {a b j : Zone} (x y : ZoneOperand) (c : ℤ) → IsOver a b j → dif a x y ≤ℤ c → dif b x y ≤ℤ c → dif j x y ≤ℤ c
dif_kept {a = a} {b = b} {j = j} x y c over one two = max_by (λ d. d ≤ℤ c) (dif a x y) (dif b x y) (dif j x y) (dif_over x y over) one two

low_kept : {a b j : Zone} (x : ZoneOperand) (c : ℤ) → IsOver a b j → c ≤ℤ low a x → c ≤ℤ low b x → c ≤ℤ low j x
low_kept {a = a} {b = b} {j = j} x c over one two = max_by (λ d. c ≤ℤ neg_ℤ d) (dif a (Lit (pos 0)) x) (dif b (Lit (pos 0)) x) (dif j (Lit (pos 0)) x) (dif_over (Lit (pos 0)) x over) one two

nonzero_kept : {a b j : Zone} (x : ZoneOperand) → IsOver a b j → IsNonzero a x → IsNonzero b x → IsNonzero j x
nonzero_kept (Lit c) over one two = one
nonzero_kept (Var y) over one two = (over.marks y).both one two

span_kept : {a b j : Zone} (x y : ZoneOperand) (lo hi : ℤ) → IsOver a b j → IsSpan a x y lo hi → IsSpan b x y lo hi → IsSpan j x y lo hi
span_kept x y lo hi over one two = record { high = dif_kept x y hi over one.high two.high; low = dif_kept y x (neg_ℤ lo) over one.low two.low }

apart_kept : {a b j : Zone} (m : Zone) (x y : ZoneOperand) → IsOver a b j → IsApart m a x y → IsApart m b x y → IsApart m j x y
apart_kept m x y over one two = record {
  above = λ e. dif_kept x y (negsuc 0) over (one.above e) (two.above e);
  below = λ e. dif_kept y x (negsuc 0) over (one.below e) (two.below e);
  left = λ z. nonzero_kept x over (one.left z) (two.left z);
  right = λ z. nonzero_kept y over (one.right z) (two.right z);
}

among_kept : {a b j : Zone} (x : ZoneOperand) (Is : ℤ → Type 0) → IsOver a b j → IsAmong a x Is → IsAmong b x Is → IsAmong j x Is
among_kept {a = a} {b = b} {j = j} x Is over one two = record {
  least = max_by (λ d. (q : ℤ) × (Is q × (q ≤ℤ neg_ℤ d))) (dif a (Lit (pos 0)) x) (dif b (Lit (pos 0)) x) (dif j (Lit (pos 0)) x) (dif_over (Lit (pos 0)) x over) one.least two.least;
  greatest = max_by (λ d. (q : ℤ) × (Is q × (d ≤ℤ q))) (dif a x (Lit (pos 0))) (dif b x (Lit (pos 0))) (dif j x (Lit (pos 0))) (dif_over x (Lit (pos 0)) over) one.greatest two.greatest;
}

pub tested_kept : (rel : ZoneRel) (m : Zone) (x y : ZoneOperand) → IsKept (λ n. Tested rel m n x y)
tested_kept Equal m x y a b j over one two = span_kept x y (pos 0) (pos 0) over one two
tested_kept Unequal m x y a b j over one two = apart_kept m x y over one two
tested_kept Less m x y a b j over one two = dif_kept x y (negsuc 0) over one two
tested_kept AtMost m x y a b j over one two = dif_kept x y (pos 0) over one two
tested_kept Greater m x y a b j over one two = dif_kept y x (negsuc 0) over one two
tested_kept AtLeast m x y a b j over one two = dif_kept y x (pos 0) over one two

computed_kept : (op : ZoneOp) (m : Zone) (t x y : ZoneOperand) → IsKept (λ n. Computed op m n t x y)
computed_kept Add m t x y a b j over one two = record {
  whole = span_kept t (Lit (pos 0)) (low m x +ℤ low m y) (up m x +ℤ up m y) over one.whole two.whole;
  left = span_kept t x (low m y) (up m y) over one.left two.left;
  right = span_kept t y (low m x) (up m x) over one.right two.right;
}
computed_kept Sub m t x y a b j over one two = record {
  whole = span_kept t (Lit (pos 0)) (neg_ℤ (dif m y x)) (dif m x y) over one.whole two.whole;
  left = span_kept t x (neg_ℤ (up m y)) (neg_ℤ (low m y)) over one.left two.left;
}
computed_kept Mul m t x y a b j over one two = record {
  whole = among_kept t _ over one.whole two.whole;
  marked = λ p q. nonzero_kept t over (one.marked p q) (two.marked p q);
}
computed_kept Div m t x y a b j over one two = record {
  divisor = nonzero_kept y over one.divisor two.divisor;
  whole = among_kept t _ over one.whole two.whole;
}
computed_kept Rem m t x y a b j over one two = record {
  divisor = nonzero_kept y over one.divisor two.divisor;
  least = low_kept t _ over one.least two.least;
  greatest = dif_kept t (Lit (pos 0)) _ over one.greatest two.greatest;
}

pub given_kept : (value : ZoneValue) (m : Zone) (t : ZoneOperand) → IsKept (λ n. Given value m n t)
given_kept (Copy x) m t a b j over one two = record {
  same = span_kept t x (pos 0) (pos 0) over one.same two.same;
  marked = λ h. nonzero_kept t over (one.marked h) (two.marked h);
}
given_kept (Arith op x y) m t a b j over one two = computed_kept op m t x y a b j over one two
given_kept (Within c) m t a b j over one two = record {
  whole = span_kept t (Lit (pos 0)) c.lo c.hi over one.whole two.whole;
  marked = λ h. nonzero_kept t over (one.marked h) (two.marked h);
}

pub guard_exists : (z : Zone) (test : ZoneTest) → ¬ (¬ ((g : Zone) × IsGuarded z test g))
guard_exists z test missing = norm_exists z (λ n.
    greatest_exists z.vars n.0 (λ m. Tested test.rel n.0 m test.left test.right) z.few (tested_kept test.rel n.0 test.left test.right)
    (λ g. missing (g.0, record { before = n.0; norm = n.1; greatest = g.1 })))
