-- What values add to a state.
use Rattle.std.proofs.Common.{◌∙◌, ◌≡◌, ◌↔◌, ℕ, ◌+◌, ℤ, pos, ◌+ℤ◌, ◌-ℤ◌, neg_ℤ, Bool, true, false, ◌&&◌, IsTrue, unsigned_abs, max, arith, rules, sym, subst}
use Rattle.std.specs.Int.{int_min, int_max}
use Rattle.std.proofs.lemmas.Int.{ints}
use Rattle.vmv_cond.specs.declared.cond.Cond.{Cond}
use Rattle.vmv_zone.specs.declared.zone.Zone.{Zone}
use Rattle.vmv_zone.specs.declared.operand.ZoneOperand.{ZoneOperand}
use Rattle.vmv_zone.specs.declared.operand.ZoneOperand.TheVariants.{Lit, Var}
use Rattle.vmv_zone.specs.declared.operand.ZoneValue.{ZoneValue}
use Rattle.vmv_zone.specs.Zone.{IsNormOf, IsGreatest}
use Rattle.vmv_zone.specs.Operand.{dif, up, low, IsSpan, IsNonzero}
use Rattle.vmv_zone.specs.Ends.{IsEndProduct, IsEndQuotient, IsHull}
use Rattle.vmv_zone.specs.Confine.{Confines}
use Rattle.vmv_zone.specs.Step.{IsCopy, IsSum, IsDifference, IsAmong, IsProduct, IsQuotient, IsRemainder, IsWordOf, Given, Drops, IsAssigned, size_of}
use Rattle.vmv_zone.proofs.Confining.{confines_as, confines_next, confines_never, greatest_of}
use Rattle.vmv_zone.proofs.Operands.{confines_same}

pub copy_of : {a b d : Zone} (m : Zone) (t x : ZoneOperand) (marked : Bool) (lo hi : ℤ) → Confines a.vars (λ n. IsSpan n t x lo hi) a b →
    Confines b.vars (λ n. IsTrue marked → IsNonzero n t) b d → IsTrue marked ↔ IsNonzero m x → lo ≡ pos 0 → hi ≡ pos 0 → Confines a.vars (λ n. IsCopy m n t x) a d
copy_of m t x marked lo hi one two iff e e' = confines_as
    (λ n same proper. ((λ h. record { same = h.0; marked = λ k. h.1 (iff.1 k) }), (λ h. (h.same, (λ k. h.marked (iff.0 k))))))
    (confines_next (confines_same t x (pos 0) (pos 0) lo hi one e e') two)

pub sum_of : {a b d e : Zone} (m : Zone) (t x y : ZoneOperand) (lo hi lx hx ly hy : ℤ) →
    Confines a.vars (λ n. IsSpan n t (Lit (pos 0)) lo hi) a b → Confines b.vars (λ n. IsSpan n t x ly hy) b d → Confines d.vars (λ n. IsSpan n t y lx hx) d e →
    lo ≡ low m x +ℤ low m y → hi ≡ up m x +ℤ up m y → ly ≡ low m y → hy ≡ up m y → lx ≡ low m x → hx ≡ up m x → Confines a.vars (λ n. IsSum m n t x y) a e
sum_of m t x y lo hi lx hx ly hy one two three el eh ely ehy elx ehx = confines_as
    (λ n same proper. ((λ h. record { whole = h.0.0; left = h.0.1; right = h.1 }), (λ h. ((h.whole, h.left), h.right))))
    (confines_next (confines_next (confines_same t (Lit (pos 0)) _ _ lo hi one el eh) (confines_same t x _ _ ly hy two ely ehy)) (confines_same t y _ _ lx hx three elx ehx))

pub difference_of : {a b d : Zone} (m : Zone) (t x y : ZoneOperand) (lo hi l h : ℤ) →
    Confines a.vars (λ n. IsSpan n t (Lit (pos 0)) lo hi) a b → Confines b.vars (λ n. IsSpan n t x l h) b d →
    lo ≡ neg_ℤ (dif m y x) → hi ≡ dif m x y → l ≡ neg_ℤ (up m y) → h ≡ neg_ℤ (low m y) → Confines a.vars (λ n. IsDifference m n t x y) a d
difference_of m t x y lo hi l h one two el eh e e' = confines_as
    (λ n same proper. ((λ h. record { whole = h.0; left = h.1 }), (λ h. (h.whole, h.left))))
    (confines_next (confines_same t (Lit (pos 0)) _ _ lo hi one el eh) (confines_same t x _ _ l h two e e'))

-- the same ends in other terms
hull_ends : (F : ℤ → ℤ → ℤ → ℤ → ℤ → Type 0) (a b c d lo hi : ℤ) {a' b' c' d' : ℤ} → IsHull (F a b c d) lo hi → a ≡ a' → b ≡ b' → c ≡ c' → d ≡ d' → IsHull (F a' b' c' d') lo hi
hull_ends F a b c d lo hi h ea eb ec ed = rw (sym ea, sym eb, sym ec, sym ed) h

none_ends : (F : ℤ → ℤ → ℤ → ℤ → ℤ → Type 0) (a b c d : ℤ) {a' b' c' d' : ℤ} → ((q : ℤ) → ¬ F a b c d q) → a ≡ a' → b ≡ b' → c ≡ c' → d ≡ d' → (q : ℤ) → ¬ F a' b' c' d' q
none_ends F a b c d none ea eb ec ed q = rw (sym ea, sym eb, sym ec, sym ed) (none q)

-- from the least to the greatest of some numbers
pub among_iff : (n : Zone) (t : ZoneOperand) (Is : ℤ → Type 0) (lo hi : ℤ) → IsHull Is lo hi → IsSpan n t (Lit (pos 0)) lo hi ↔ IsAmong n t Is
among_iff n t Is lo hi hull = (
  (λ h. record { least = (lo, (hull.low, (let l = h.low in omega (arith, ints)))); greatest = (hi, (hull.high, h.high)) }),
  (λ h.
      let l = hull.above h.least.0 h.least.1.0 in
      let l' = h.least.1.1 in
      let g = hull.below h.greatest.0 h.greatest.1.0 in
      let g' = h.greatest.1.1 in
      record { high = omega (arith, ints); low = omega (arith, ints) }),
)

both_true : (x y : Bool) → IsTrue (x && y) → IsTrue x × IsTrue y
both_true true y h = (search rules, h)
both_true false y h = absurd (search rules)

true_both : (x y : Bool) → IsTrue x → IsTrue y → IsTrue (x && y)
true_both true y h k = k
true_both false y h k = absurd (search rules)

pub product_of : {a b d : Zone} (m : Zone) (t x y : ZoneOperand) (p q : Bool) (lo hi lo' hi' xl xh yl yh : ℤ) →
    Confines a.vars (λ n. IsSpan n t (Lit (pos 0)) lo' hi') a b → Confines b.vars (λ n. IsTrue (p && q) → IsNonzero n t) b d →
    IsTrue p ↔ IsNonzero m x → IsTrue q ↔ IsNonzero m y → IsHull (IsEndProduct xl xh yl yh) lo hi → lo' ≡ lo → hi' ≡ hi →
    xl ≡ low m x → xh ≡ up m x → yl ≡ low m y → yh ≡ up m y → Confines a.vars (λ n. IsProduct m n t x y) a d
product_of m t x y p q lo hi lo' hi' xl xh yl yh one two ep eq hull' el eh exl exh eyl eyh = let hull = hull_ends IsEndProduct xl xh yl yh lo hi hull' exl exh eyl eyh in confines_as
    (λ n same proper.
    let among = among_iff n t (IsEndProduct (low m x) (up m x) (low m y) (up m y)) lo hi hull in (
      (λ h. record { whole = among.0 h.0; marked = λ k k'. h.1 (true_both p q (ep.1 k) (eq.1 k')) }),
      (λ h. (among.1 h.whole, (λ k. let both = both_true p q k in h.marked (ep.0 both.0) (eq.0 both.1)))),
    ))
    (confines_next (confines_same t (Lit (pos 0)) lo hi lo' hi' one el eh) two)

pub quotient_of : {a b d : Zone} (m : Zone) (t x y : ZoneOperand) (lo hi lo' hi' xl xh yl yh : ℤ) →
    Confines a.vars (λ n. IsNonzero n y) a b → Confines b.vars (λ n. IsSpan n t (Lit (pos 0)) lo' hi') b d →
    IsHull (IsEndQuotient xl xh yl yh) lo hi → lo' ≡ lo → hi' ≡ hi →
    xl ≡ low m x → xh ≡ up m x → yl ≡ low m y → yh ≡ up m y → Confines a.vars (λ n. IsQuotient m n t x y) a d
quotient_of m t x y lo hi lo' hi' xl xh yl yh one two hull' el eh exl exh eyl eyh = let hull = hull_ends IsEndQuotient xl xh yl yh lo hi hull' exl exh eyl eyh in confines_as
    (λ n same proper.
    let among = among_iff n t (IsEndQuotient (low m x) (up m x) (low m y) (up m y)) lo hi hull in
    ((λ h. record { divisor = h.0; whole = among.0 h.1 }), (λ h. (h.divisor, among.1 h.whole))))
    (confines_next one (confines_same t (Lit (pos 0)) lo hi lo' hi' two el eh))

pub no_quotient : (a d m : Zone) (t x y : ZoneOperand) (xl xh yl yh : ℤ) → d.vars ≡ a.vars → IsTrue d.bottom → ((q : ℤ) → ¬ IsEndQuotient xl xh yl yh q) →
    xl ≡ low m x → xh ≡ up m x → yl ≡ low m y → yh ≡ up m y → Confines a.vars (λ n. IsQuotient m n t x y) a d
no_quotient a d m t x y xl xh yl yh vars none never' exl exh eyl eyh =
    let never = none_ends IsEndQuotient xl xh yl yh never' exl exh eyl eyh in confines_never (λ n. IsQuotient m n t x y) a d vars none (λ n same proper h. never h.whole.least.0 h.whole.least.1.0)

remainder_iff : (m n : Zone) (t x y : ZoneOperand) (lo hi : ℤ) →
    lo ≡ int_max (int_min (low m x) (pos 0)) (pos 1 -ℤ size_of m y) → hi ≡ int_min (int_max (up m x) (pos 0)) (size_of m y -ℤ pos 1) →
    (IsNonzero n y × IsSpan n t (Lit (pos 0)) lo hi) ↔ IsRemainder m n t x y
remainder_iff m n t x y lo hi el eh = (
  (λ h. record {
    divisor = h.0;
    least = rw (sym el) (let l = h.1.low in omega (arith, ints));
    greatest = rw (sym eh) h.1.high;
  }),
  (λ h. (h.divisor, record { high = rw eh h.greatest; low = rw el (let l = h.least in omega (arith, ints)) })),
)

pub remainder_of : {a b d : Zone} (m : Zone) (t x y : ZoneOperand) (lo hi : ℤ) →
    Confines a.vars (λ n. IsNonzero n y) a b → Confines b.vars (λ n. IsSpan n t (Lit (pos 0)) lo hi) b d →
    lo ≡ int_max (int_min (low m x) (pos 0)) (pos 1 -ℤ size_of m y) → hi ≡ int_min (int_max (up m x) (pos 0)) (size_of m y -ℤ pos 1) →
    Confines a.vars (λ n. IsRemainder m n t x y) a d
remainder_of m t x y lo hi one two el eh = confines_as
    (λ n same proper. remainder_iff m n t x y lo hi el eh)
    (confines_next one two)

pub least_is : (m : Zone) (x y : ZoneOperand) (lo lo' xl xl' yl yh : ℤ) (s : ℕ) → lo ≡ int_max (int_min xl' (pos 0)) (pos 1 -ℤ pos s) → s ≡ max (unsigned_abs yl) (unsigned_abs yh) →
    xl ≡ low m x → yl ≡ low m y → yh ≡ up m y → lo' ≡ lo → xl' ≡ xl → lo' ≡ int_max (int_min (low m x) (pos 0)) (pos 1 -ℤ size_of m y)
least_is m x y lo lo' xl xl' yl yh s e size ex el eh f g =
    let s_is : s ≡ max (unsigned_abs (low m y)) (unsigned_abs (up m y)) = (rw (el, eh) at size) in
    let x_is : xl' ≡ low m x = g ∙ ex in
    f ∙ (rw (x_is, s_is) at e)

pub most_is : (m : Zone) (x y : ZoneOperand) (hi hi' xh xh' yl yh : ℤ) (s : ℕ) → hi ≡ int_min (int_max xh' (pos 0)) (pos s -ℤ pos 1) → s ≡ max (unsigned_abs yl) (unsigned_abs yh) →
    xh ≡ up m x → yl ≡ low m y → yh ≡ up m y → hi' ≡ hi → xh' ≡ xh → hi' ≡ int_min (int_max (up m x) (pos 0)) (size_of m y -ℤ pos 1)
most_is m x y hi hi' xh xh' yl yh s e size ex el eh f g =
    let s_is : s ≡ max (unsigned_abs (low m y)) (unsigned_abs (up m y)) = (rw (el, eh) at size) in
    let x_is : xh' ≡ up m x = g ∙ ex in
    f ∙ (rw (x_is, s_is) at e)

pub word_of : {a b d : Zone} (cond : Cond) (t : ZoneOperand) (marked : Bool) (lo hi : ℤ) → Confines a.vars (λ n. IsSpan n t (Lit (pos 0)) lo hi) a b →
    Confines b.vars (λ n. IsTrue marked → IsNonzero n t) b d → marked ≡ cond.zero_out → lo ≡ cond.lo → hi ≡ cond.hi → Confines a.vars (λ n. IsWordOf cond n t) a d
word_of cond t marked lo hi one two em el eh = confines_as
    (λ n same proper. rw em ((λ h. record { whole = h.0; marked = h.1 }), (λ h. (h.whole, h.marked))))
    (confines_next (confines_same t (Lit (pos 0)) _ _ lo hi one el eh) two)

pub assigned_of : (z before ext given e r : Zone) (to : ℕ) (value : ZoneValue) → IsNormOf z before → Confines (before.vars + 1) (λ n. Unit {0}) before ext →
    Confines ext.vars (λ n. Given value before n (Var (before.vars + 1))) ext given → IsNormOf given e → Drops to e r → IsAssigned z to value r
assigned_of z before ext given e r to value norm extends gives norm' drops = record {
  before = before;
  norm = norm;
  fresh = e;
  greatest = let F : ℕ → Type 0 = λ k. IsGreatest (k + 1) before (λ n. Given value before n (Var (k + 1))) e in
      subst F norm.vars (greatest_of (before.vars + 1) (λ n. Given value before n (Var (before.vars + 1))) before given e
      (confines_as (λ n same proper. ((λ h. h.1), (λ h. (tt, h)))) (confines_next extends gives)) norm');
  drops = drops;
}
