-- What the calls that look for failures answer.
use Rattle.std.proofs.Common.{◌∙◌, ◌≡◌, ◌⊎◌, ◌↔◌, inl, inr, ⊎_elim, ℤ, pos, ◌*ℤ◌, ◌<ℤ◌, Bool, true, false, ◌||◌, IsTrue, IsFalse, FitsSigned, arith, rules, refl, sym, subst}
use Rattle.std.specs.Prelude.{int_lt}
use Rattle.std.specs.Int.{w64}
use Rattle.std.proofs.lemmas.Int.{ints}
use Rattle.vmv_zone.specs.declared.zone.Zone.{Zone}
use Rattle.vmv_zone.specs.declared.operand.ZoneOp.{ZoneOp}
use Rattle.vmv_zone.specs.declared.operand.ZoneOp.TheVariants.{Div, Rem}
use Rattle.vmv_zone.specs.declared.operand.ZoneOperand.{ZoneOperand}
use Rattle.vmv_zone.specs.declared.operand.ZoneOperand.TheVariants.{Lit, Var}
use Rattle.vmv_zone.specs.declared.operand.ZoneTest.{ZoneTest}
use Rattle.vmv_zone.specs.Zone.{HasNormalBounds, IsNormOf}
use Rattle.vmv_zone.specs.Operand.{low, up, IsOperand, IsNonzero}
use Rattle.vmv_zone.specs.Ends.{IsEnd, IsEndProduct}
use Rattle.vmv_zone.specs.declared.operand.ZoneValue.TheVariants.{Copy}
use Rattle.vmv_zone.specs.Step.{IsGuarded, IsAssigned}
use Rattle.vmv_snapshot.specs.declared.code.CodeOperand.{CodeOperand}
use Rattle.vmv_snapshot.specs.declared.code.Slot.{Slot}
use Rattle.vmv_step.specs.Zones.{zone_operand, negation}
use Rattle.vmv_step.specs.Loops.{at_most, IsHead, IsForgotten, IsLeft}
use Rattle.vmv_step.specs.Fails.{LeavesWords, MayFail, TellsArith, TellsTest, TellsBound, IsLeastByMinusOne}
use Rattle.vmv_step.proofs.Quotient.{edge_of_ends, ends_of_edge}
use Rattle.vmv_step.proofs.Ends.{ends_order}

pub same_leaves : (r : Bool) (lo hi lo' hi' : ℤ) → IsTrue r ↔ LeavesWords lo hi → lo ≡ lo' → hi ≡ hi' → IsTrue r ↔ LeavesWords lo' hi'
same_leaves r lo hi lo' hi' iff el eh = rw (sym el, sym eh) iff

or_first : (w x y z : Bool) → IsTrue w → IsTrue (((w || x) || y) || z)
or_first true x y z h = h
or_first false x y z h = absurd (cc)

or_second : (w x y z : Bool) → IsTrue x → IsTrue (((w || x) || y) || z)
or_second true x y z h = refl
or_second false true y z h = h
or_second false false y z h = absurd (cc)

or_third : (w x y z : Bool) → IsTrue y → IsTrue (((w || x) || y) || z)
or_third true x y z h = refl
or_third false true y z h = refl
or_third false false true z h = h
or_third false false false z h = absurd (cc)

or_fourth : (w x y z : Bool) → IsTrue z → IsTrue (((w || x) || y) || z)
or_fourth true x y z h = refl
or_fourth false true y z h = refl
or_fourth false false true z h = refl
or_fourth false false false z h = h

or_cases : (w x y z : Bool) → IsTrue (((w || x) || y) || z) → IsTrue w ⊎ (IsTrue x ⊎ (IsTrue y ⊎ IsTrue z))
or_cases true x y z h = inl refl
or_cases false true y z h = inr (inl refl)
or_cases false false true z h = inr (inr (inl refl))
or_cases false false false z h = inr (inr (inr h))

same_product : (w : Bool) (a c a' c' : ℤ) → IsTrue w ↔ LeavesWords (a *ℤ c) (a *ℤ c) → a ≡ a' → c ≡ c' → IsTrue w ↔ LeavesWords (a' *ℤ c') (a' *ℤ c')
same_product w a c a' c' iff ea ec = rw (sym ea, sym ec) iff

at_ends : (a b c d : ℤ) (w x y z : Bool) → IsTrue w ↔ LeavesWords (a *ℤ c) (a *ℤ c) → IsTrue x ↔ LeavesWords (a *ℤ d) (a *ℤ d) → IsTrue y ↔ LeavesWords (b *ℤ c) (b *ℤ c) →
    IsTrue z ↔ LeavesWords (b *ℤ d) (b *ℤ d) → (q e f : ℤ) → IsEnd a b e → IsEnd c d f → q ≡ e *ℤ f → LeavesWords q q → IsTrue (((w || x) || y) || z)
at_ends a b c d w x y z hw hx hy hz q e f he hf is l =
    let l' : LeavesWords (e *ℤ f) (e *ℤ f) = subst (λ k. LeavesWords k k) is l in
    ⊎_elim
    (λ (ea : e ≡ a). ⊎_elim (λ (fc : f ≡ c). or_first w x y z (hw.1 (rw (ea, fc) at l'))) (λ (fd : f ≡ d). or_second w x y z (hx.1 (rw (ea, fd) at l'))) hf)
    (λ (eb : e ≡ b). ⊎_elim (λ (fc : f ≡ c). or_third w x y z (hy.1 (rw (eb, fc) at l'))) (λ (fd : f ≡ d). or_fourth w x y z (hz.1 (rw (eb, fd) at l'))) hf)
    he

-- one of the four products of ends is no word
pub some_product : (a b c d : ℤ) (w x y z : Bool) (a1 c1 a2 d2 b3 c3 b4 d4 : ℤ) → IsTrue w ↔ LeavesWords (a1 *ℤ c1) (a1 *ℤ c1) → IsTrue x ↔ LeavesWords (a2 *ℤ d2) (a2 *ℤ d2) →
    IsTrue y ↔ LeavesWords (b3 *ℤ c3) (b3 *ℤ c3) → IsTrue z ↔ LeavesWords (b4 *ℤ d4) (b4 *ℤ d4) → a1 ≡ a → c1 ≡ c → a2 ≡ a → d2 ≡ d → b3 ≡ b → c3 ≡ c → b4 ≡ b → d4 ≡ d →
    IsTrue (((w || x) || y) || z) ↔ ((q : ℤ) × IsEndProduct a b c d q × LeavesWords q q)
some_product a b c d w x y z a1 c1 a2 d2 b3 c3 b4 d4 hw hx hy hz e1 f1 e2 f2 e3 f3 e4 f4 =
    let gw = same_product w a1 c1 a c hw e1 f1 in
    let gx = same_product x a2 d2 a d hx e2 f2 in
    let gy = same_product y b3 c3 b c hy e3 f3 in
    let gz = same_product z b4 d4 b d hz e4 f4 in (
      λ t. ⊎_elim (λ h. (a *ℤ c, record { left = a; right = c; left_end = inl refl; right_end = inl refl; is = refl }, gw.0 h))
          (λ more. ⊎_elim (λ h. (a *ℤ d, record { left = a; right = d; left_end = inl refl; right_end = inr refl; is = refl }, gx.0 h))
          (λ more. ⊎_elim (λ h. (b *ℤ c, record { left = b; right = c; left_end = inr refl; right_end = inl refl; is = refl }, gy.0 h))
          (λ h. (b *ℤ d, record { left = b; right = d; left_end = inr refl; right_end = inr refl; is = refl }, gz.0 h)) more) more)
          (or_cases w x y z t),
      λ h. at_ends a b c d w x y z gw gx gy gz h.0 h.1.left h.1.right h.1.left_end h.1.right_end h.1.is h.2,
    )

-- a quotient may fail where the remainder may
pub quotient_iff : (m : Zone) (x y : ZoneOperand) (r : Bool) → HasNormalBounds m → IsOperand m.vars x → IsOperand m.vars y → FitsSigned w64 (low m x) → FitsSigned w64 (up m x) →
    IsTrue r ↔ MayFail Rem m x y → IsTrue r ↔ MayFail Div m x y
quotient_iff m x y r normal hx hy fl fu iff = (
  λ t. ⊎_elim (λ maybe. inl maybe) (λ edge. inr (ends_of_edge (low m x) (up m x) (low m y) (up m y) edge)) (iff.0 t),
  λ h. iff.1 (⊎_elim (λ maybe. inl maybe) (λ q. inr (edge_of_ends (low m x) (up m x) (low m y) (up m y) fl fu (ends_order m x normal hx) (ends_order m y normal hy) q)) h),
)

pub clash : (b : Bool) → IsTrue b → IsFalse b → ⊥
clash b t f = absurd (search rules)

pub up_of : (r bottom : Bool) → IsTrue r ↔ IsTrue bottom → r ≡ false → IsFalse bottom
up_of r true iff e = let t = iff.1 refl in absurd (cc)
up_of r false iff e = refl

pub none_of : (r bottom : Bool) → IsTrue r ↔ IsTrue bottom → r ≡ true → IsTrue bottom
none_of r bottom iff e = iff.0 e

pub arith_none : (op : ZoneOp) (z m : Zone) (x y : ZoneOperand) → IsNormOf z m → IsTrue m.bottom → TellsArith op z x y false
arith_none op z m x y norm none = record { before = m; norm = norm; tells = ((λ t. absurd (cc)), (λ h. absurd (clash m.bottom none h.0))) }

pub arith_some : (op : ZoneOp) (z m : Zone) (x y : ZoneOperand) (r : Bool) → IsNormOf z m → IsFalse m.bottom → IsTrue r ↔ MayFail op m x y → TellsArith op z x y r
arith_some op z m x y r norm up' iff = record { before = m; norm = norm; tells = ((λ t. (up', iff.0 t)), (λ h. iff.1 h.1)) }

pub bound_none : (z m : Zone) (x : ZoneOperand) (cap : ℤ) → IsNormOf z m → IsTrue m.bottom → TellsBound x cap z false
bound_none z m x cap norm none = record { before = m; norm = norm; tells = ((λ t. absurd (cc)), (λ h. absurd (clash m.bottom none h.0))) }

less_iff : (a b : ℤ) → IsTrue (int_lt a b) ↔ (a <ℤ b)
less_iff a b = ((λ t. grind (arith, ints)), (λ h. grind (arith, ints)))

pub bound_told : (z m : Zone) (x : ZoneOperand) (cap cap' high : ℤ) → IsNormOf z m → IsFalse m.bottom → cap' ≡ cap → high ≡ up m x → TellsBound x cap z (int_lt cap' high)
bound_told z m x cap cap' high norm up' ec eh =
    let iff : IsTrue (int_lt cap' high) ↔ (cap <ℤ up m x) = rw (sym ec, sym eh) (less_iff cap' high) in
    record { before = m; norm = norm; tells = ((λ t. (up', iff.0 t)), (λ h. iff.1 h.1)) }

pub test_told : (test t : ZoneTest) (z : Zone) (b : Bool) → ((g : Zone) × IsGuarded z t g × (IsTrue b ↔ IsFalse g.bottom)) → t ≡ negation test → TellsTest test z b
test_told test t z b told e = record { failing = told.0; guard = subst (λ (k : ZoneTest). IsGuarded z k told.0) e told.1; tells = told.2 }

-- where z is nonzero, a quotient may fail where the least word may be divided by -1
pub quotient_only : (m : Zone) (x y : ZoneOperand) (r k : Bool) (lo c d : ℤ) → IsTrue r ↔ IsLeastByMinusOne lo c d → lo ≡ low m x → c ≡ low m y → d ≡ up m y → IsTrue k → IsTrue k ↔ IsNonzero m y →
    HasNormalBounds m → IsOperand m.vars x → IsOperand m.vars y → FitsSigned w64 (low m x) → FitsSigned w64 (up m x) → IsTrue r ↔ MayFail Div m x y
quotient_only m x y r k lo c d iff el ec ed t nonzero normal hx hy fl fu =
    let iff' : IsTrue r ↔ IsLeastByMinusOne (low m x) (low m y) (up m y) = rw (sym el, sym ec, sym ed) iff in
    quotient_iff m x y r normal hx hy fl fu ((λ h. inr (iff'.0 h)), (λ h. iff'.1 (⊎_elim (λ maybe. absurd (maybe (nonzero.0 t))) (λ edge. edge) h)))

pub left_none : (i slot : Slot) (z g : Zone) (t : ZoneTest) → IsGuarded z t g → t ≡ at_most (Var slot.0) (Var i.0) → IsTrue g.bottom → IsLeft i slot z g
left_none i slot z g t guard e none = record {
  last = g;
  guard = subst (λ (k : ZoneTest). IsGuarded z k g) e guard;
  vars = guard.greatest.vars;
  bottom = λ h. h;
  forgotten = λ up'. absurd (clash g.bottom none up');
}

pub left_some : (i slot : Slot) (z g r : Zone) (t : ZoneTest) → IsGuarded z t g → t ≡ at_most (Var slot.0) (Var i.0) → IsFalse g.bottom → IsForgotten i slot g r → r.vars ≡ g.vars → IsLeft i slot z r
left_some i slot z g r t guard e up' f vars = record {
  last = g;
  guard = subst (λ (k : ZoneTest). IsGuarded z k g) e guard;
  vars = vars ∙ guard.greatest.vars;
  bottom = λ none. absurd (clash g.bottom none up');
  forgotten = λ h. f;
}

pub head_told : (i slot : Slot) (bound : CodeOperand) (most most' : ℤ) (z capped copied r : Zone) (unproved : Bool) (x : ZoneOperand) (t : ZoneTest) → x ≡ zone_operand bound → IsGuarded z t capped →
    t ≡ at_most x (Lit most') → IsAssigned capped slot.0 (Copy x) copied → IsAssigned copied i.0 (Copy (Lit (pos 0))) r → TellsBound x most' z unproved → most' ≡ most →
    IsHead i slot bound most z (record { zone = r; unproved = unproved })
head_told i slot bound most most' z capped copied r unproved x t ex guard et copy zone tells em = record {
  capped = capped;
  guard = subst (λ (k : ZoneTest). IsGuarded z k capped) (et ∙ (λ j. at_most (ex j) (Lit (em j)))) guard;
  copied = copied;
  copy = subst (λ (k : ZoneOperand). IsAssigned capped slot.0 (Copy k) copied) ex copy;
  zone = zone;
  unproved = subst (λ (k : ZoneOperand). TellsBound k most z unproved) ex (subst (λ (k : ℤ). TellsBound x k z unproved) em tells);
}
