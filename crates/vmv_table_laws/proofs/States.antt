-- What is told of a state picks one: greatest states, norms, joins, guards and assignments.
use Rattle.std.proofs.Common.{◌≡◌, ◌↔◌, ℕ, ◌+◌, ◌≤◌, List, Bool, true, false, IsTrue, IsFalse, refl, sym, ap, subst, arith, rules, inl, inr, ⊎_elim, ◌∙◌}
use Rattle.std.proofs.lemmas.Int.{ints}
use Rattle.std.proofs.lemmas.Bool.{cases_eq}
use Rattle.vmv_zone.specs.declared.zone.Zone.{Zone}
use Rattle.vmv_zone.specs.declared.operand.ZoneOperand.{ZoneOperand}
use Rattle.vmv_zone.specs.declared.operand.ZoneOperand.TheVariants.{Var}
use Rattle.vmv_zone.specs.declared.operand.ZoneTest.{ZoneTest}
use Rattle.vmv_zone.specs.declared.operand.ZoneValue.{ZoneValue}
use Rattle.vmv_zone.specs.Zone.{IsBottom, bound_of, mark_of, IsMarked, IsBelow, IsGreatest, IsFreed, IsJoin}
use Rattle.vmv_zone.specs.Operand.{dif, IsNonzero}
use Rattle.vmv_zone.specs.Args.{argument_at, IsArgsOf}
use Rattle.vmv_zone.specs.Step.{Tested, Given, IsGuarded, IsAssigned, Drops}
use Rattle.vmv_zone.proofs.Equal.{clash, below_both, norm_once}

-- two facts that give one another are told by one Bool
same_truth : (a b : Bool) → (IsTrue a → IsTrue b) → (IsTrue b → IsTrue a) → a ≡ b
same_truth true true f g = refl
same_truth true false f g = absurd (let h = f (search rules) in search rules)
same_truth false true f g = absurd (let h = g (search rules) in search rules)
same_truth false false f g = refl

-- what tells a fact is one
pub told_once : (P : Type 0) (a b : Bool) → IsTrue a ↔ P → IsTrue b ↔ P → a ≡ b
told_once P a b x y = same_truth a b (λ h. y.1 (x.0 h)) (λ h. x.1 (y.0 h))

-- a step that gives one state gives one from equal states
pub chain : (R : Zone → Zone → Type 0) → ((z r s : Zone) → R z r → R z s → r ≡ s) → (y z r s : Zone) → y ≡ z → R y r → R z s → r ≡ s
chain R once y z r s e a b = once z r s (subst (λ x. R x r) e a) b

-- one side of the order, from equal bounds and marks
below_at : (r s : Zone) → r.vars ≡ s.vars → r.bottom ≡ s.bottom → (IsFalse r.bottom → (i j : ℕ) → i ≤ r.vars → j ≤ r.vars → bound_of r i j ≡ bound_of s i j) →
    (IsFalse r.bottom → (i : ℕ) → 1 ≤ i → i ≤ r.vars → mark_of r i ≡ mark_of s i) → IsBelow r s
below_at r s e b bounds marks f =
    record {
      not_bottom = sym b ∙ f;
      bounds = λ i j hi hj. (let q = bounds f i j (omega (arith, e)) (omega (arith, e)) in omega (arith, ints));
      marks = λ i one hi h. marks f i one (omega (arith, e)) ∙ h;
    }

-- states with the same bounds and marks are equal
pub same_at : (r s : Zone) → r.vars ≡ s.vars → r.bottom ≡ s.bottom → (IsFalse r.bottom → (i j : ℕ) → i ≤ r.vars → j ≤ r.vars → bound_of r i j ≡ bound_of s i j) →
    (IsFalse r.bottom → (i : ℕ) → 1 ≤ i → i ≤ r.vars → mark_of r i ≡ mark_of s i) → r ≡ s
same_at r s e b bounds marks =
    below_both r s e (below_at r s e b bounds marks)
    (below_at s r (sym e) (sym b) (λ f i j hi hj. sym (bounds (b ∙ f) i j (omega (arith, e)) (omega (arith, e)))) (λ f i one hi. sym (marks (b ∙ f) i one (omega (arith, e)))))

pub bottoms_once : (r s : Zone) → r.vars ≡ s.vars → IsBottom r → IsBottom s → r ≡ s
bottoms_once r s e t u = below_both r s e (λ f. clash r.bottom t f) (λ f. clash s.bottom u f)

greatest_once : (count : ℕ) (z : Zone) (Has : Zone → Type 0) (g h : Zone) → IsGreatest count z Has g → IsGreatest count z Has h → g ≡ h
greatest_once count z Has g h a b = below_both g h (a.vars ∙ sym b.vars) (b.greatest g a.vars a.normal a.below a.has) (a.greatest h b.vars b.normal b.below b.has)

pub join_once : (a b j k : Zone) → IsJoin a b j → IsJoin a b k → j ≡ k
join_once a b j k x y = below_both j k (x.vars ∙ sym y.vars) (x.least k y.vars y.left y.right) (y.least j x.vars x.left x.right)

pub guarded_once : (test : ZoneTest) (z g h : Zone) → IsGuarded z test g → IsGuarded z test h → g ≡ h
guarded_once test z g h a b =
    let same : a.before ≡ b.before = norm_once z a.before b.before a.norm b.norm in
    let moved = subst (λ (m : Zone). IsGreatest z.vars m (λ n. Tested test.rel m n test.left test.right) g) same a.greatest in
    greatest_once z.vars b.before (λ n. Tested test.rel b.before n test.left test.right) g h moved b.greatest

dropped_once : (to : ℕ) (f r s : Zone) → Drops to f r → Drops to f s → r ≡ s
dropped_once to f r s a b =
    let v = a.vars in
    let u = b.vars in
    let e : r.vars ≡ s.vars = omega (arith, v, u) in
    same_at r s e (a.bottom ∙ sym b.bottom) (λ g i j hi hj. a.bounds i j hi hj ∙ sym (b.bounds i j (omega (arith, e)) (omega (arith, e))))
    (λ g i one hi. a.marks i one hi ∙ sym (b.marks i one (omega (arith, e))))

pub assigned_once : (to : ℕ) (value : ZoneValue) (z r s : Zone) → IsAssigned z to value r → IsAssigned z to value s → r ≡ s
assigned_once to value z r s a b =
    let same : a.before ≡ b.before = norm_once z a.before b.before a.norm b.norm in
    let moved = subst (λ (m : Zone). IsGreatest (z.vars + 1) m (λ n. Given value m n (Var (z.vars + 1))) a.fresh) same a.greatest in
    let fresh : a.fresh ≡ b.fresh = greatest_once (z.vars + 1) b.before (λ n. Given value b.before n (Var (z.vars + 1))) a.fresh b.fresh moved b.greatest in
    chain (Drops to) (dropped_once to) a.fresh b.fresh r s fresh a.drops b.drops

pub freed_once : (x : ℕ) (z r s : Zone) → IsFreed z r x → IsFreed z s x → r ≡ s
freed_once x z r s a b =
    let e : r.vars ≡ s.vars = a.vars ∙ sym b.vars in
    let o = a.vars in
    same_at r s e (a.bottom ∙ sym b.bottom)
    (λ g i j hi hj.
    let hi' : i ≤ z.vars = omega (arith, o) in
    let hj' : j ≤ z.vars = omega (arith, o) in
    ⊎_elim (λ p. a.freed i j hi' hj' (inl p) ∙ sym (b.freed i j hi' hj' (inl p)))
    (λ p. ⊎_elim (λ q. a.freed i j hi' hj' (inr q) ∙ sym (b.freed i j hi' hj' (inr q))) (λ q. a.others i j hi' hj' p q ∙ sym (b.others i j hi' hj' p q)) (cases_eq j x)) (cases_eq i x))
    (λ g i one hi. ⊎_elim (λ p. same_truth (mark_of r i) (mark_of s i)
    (λ h. absurd (a.unmarked (subst (λ k. IsTrue (mark_of r k)) p h))) (λ h. absurd (b.unmarked (subst (λ k. IsTrue (mark_of s k)) p h))))
    (λ p. a.marks i p ∙ sym (b.marks i p)) (cases_eq i x))

pub args_once : (args : List ZoneOperand) (z r s : Zone) → IsArgsOf z args r → IsArgsOf z args s → r ≡ s
args_once args z r s a b =
    let same : a.before ≡ b.before = norm_once z a.before b.before a.norm b.norm in
    let e : r.vars ≡ s.vars = a.vars ∙ sym b.vars in
    let v = a.vars in
    let bottom : r.bottom ≡ s.bottom = a.bottom ∙ (ap (λ (m : Zone). m.bottom) same ∙ sym b.bottom) in
    same_at r s e bottom
    (λ f i j hi hj.
    a.bounds (sym a.bottom ∙ f) i j (omega (arith, v)) (omega (arith, v)) ∙ (ap (λ (m : Zone). dif m (argument_at args i) (argument_at args j)) same
    ∙ sym (b.bounds (sym b.bottom ∙ (sym bottom ∙ f)) i j (omega (arith, v)) (omega (arith, v)))))
    (λ f i one hi.
    told_once (IsNonzero b.before (argument_at args i)) (mark_of r i) (mark_of s i)
    (subst (λ (m : Zone). IsMarked r i ↔ IsNonzero m (argument_at args i)) same (a.marks (sym a.bottom ∙ f) i one (omega (arith, v))))
    (b.marks (sym b.bottom ∙ (sym bottom ∙ f)) i one (omega (arith, v))))
