-- Steps keep the order of states, and leave normal states over as many variables.
use Rattle.std.proofs.Common.{◌∙◌, ◌≡◌, ◌≢◌, ◌⊎◌, inl, inr, ⊎_elim, ℕ, ℤ, pos, Bool, IsTrue, IsFalse, arith, rules, sym, subst}
use Rattle.std.proofs.lemmas.Int.{ints}
use Rattle.std.proofs.lemmas.Bool.{cases_eq}
use Rattle.vmv_snapshot.specs.declared.code.Slot.{Slot}
use Rattle.vmv_snapshot.specs.declared.code.CodeOperand.{CodeOperand}
use Rattle.vmv_snapshot.specs.declared.code.CodeTest.{CodeTest}
use Rattle.vmv_snapshot.specs.declared.code.Simple.{Simple}
use Rattle.vmv_snapshot.specs.declared.code.Simple.TheVariants.{Set, Arith, Ask, Assert}
use Rattle.vmv_zone.specs.declared.zone.Zone.{Zone}
use Rattle.vmv_zone.specs.declared.operand.ZoneOperand.{ZoneOperand}
use Rattle.vmv_zone.specs.declared.operand.ZoneOperand.TheVariants.{Lit, Var}
use Rattle.vmv_zone.specs.declared.operand.ZoneOp.{ZoneOp}
use Rattle.vmv_zone.specs.declared.operand.ZoneOp.TheVariants.{Add}
use Rattle.vmv_zone.specs.declared.operand.ZoneTest.{ZoneTest}
use Rattle.vmv_zone.specs.declared.operand.ZoneValue.{ZoneValue}
use Rattle.vmv_zone.specs.declared.operand.ZoneValue.TheVariants.{Copy, Arith, Within}
use Rattle.vmv_zone.specs.Zone.{IsBelow, IsNormal, IsFreed, mark_of}
use Rattle.vmv_zone.specs.Operand.{up, IsOperand}
use Rattle.vmv_zone.specs.Step.{IsAssigned}
use Rattle.vmv_zone.proofs.Confining.{true_along, false_along}
use Rattle.vmv_zone.proofs.Words.{is_or_not}
use Rattle.vmv_zone.proofs.States.{norm_mono}
use Rattle.vmv_zone.proofs.GuardLaws.{guard_mono, dif_mono}
use Rattle.vmv_zone.proofs.AssignOrder.{assign_mono}
use Rattle.vmv_zone.proofs.WordOrder.{word_mono}
use Rattle.vmv_zone.proofs.MoreLaws.{assign_normal}
use Rattle.vmv_assumption.specs.Assumed.{Assumed}
use Rattle.vmv_assumption.specs.Within.{IsBelow as IsLess}
use Rattle.vmv_step.specs.declared.stepped.Stepped.{Stepped}
use Rattle.vmv_step.specs.Zones.{zone_operand, zone_op, zone_test, negation, IsVariable, IsInside, IsTestInside}
use Rattle.vmv_step.specs.Fails.{TellsArith, TellsTest, TellsBound}
use Rattle.vmv_step.specs.Steps.{IsSimpleInside, IsStepped, IsBranched}
use Rattle.vmv_step.specs.Loops.{less, at_most, IsHead, IsTurn, IsAgain, IsLeft}
use Rattle.vmv_step.specs.Agree.{HasWords}
use Rattle.vmv_step.proofs.Ends.{IsFit, fails_mono}
use Rattle.vmv_step.proofs.StepPoints.{fit_operand}

never : {P : Type 0} (b : Bool) → IsFalse b → IsTrue b → P
never b f t = absurd (search rules)

clash : (b : Bool) → IsTrue b → IsFalse b → ⊥
clash b t f = absurd (search rules)

arith_tells : (op : ZoneOp) (a b : Zone) (x y : ZoneOperand) (r s : Bool) → a.vars ≡ b.vars → IsOperand b.vars x → IsOperand b.vars y → IsFit x → TellsArith op a x y r → TellsArith op b x y s → IsBelow a b → IsTrue r → IsTrue s
arith_tells op a b x y r s same hx hy fits one two below t =
    let m = one.before in
    let n = two.before in
    let h = one.tells.0 t in
    let lower = norm_mono a b m n same one.norm two.norm below h.0 in
    let inside : (o : ZoneOperand) → IsOperand b.vars o → IsOperand n.vars o = λ o k. (let P : ℕ → Type 0 = λ v. IsOperand v o in subst P (sym two.norm.vars) k) in
    two.tells.1
    (lower.not_bottom, fails_mono op m n x y lower (one.norm.normal h.0) (two.norm.normal lower.not_bottom) (one.norm.vars ∙ same ∙ sym two.norm.vars) (inside x hx) (inside y hy) fits h.1)

test_tells : (test : ZoneTest) (a b : Zone) (r s : Bool) → a.vars ≡ b.vars → IsOperand b.vars test.left → IsOperand b.vars test.right → TellsTest test a r → TellsTest test b s → IsBelow a b → IsTrue r → IsTrue s
test_tells test a b r s same hx hy one two below t =
    two.tells.1 (guard_mono a b one.failing two.failing (negation test) same hx hy one.guard two.guard below (one.tells.0 t)).not_bottom

bound_tells : (x : ZoneOperand) (most : ℤ) (a b : Zone) (r s : Bool) → a.vars ≡ b.vars → IsOperand b.vars x → TellsBound x most a r → TellsBound x most b s → IsBelow a b → IsTrue r → IsTrue s
bound_tells x most a b r s same hx one two below t =
    let m = one.before in
    let n = two.before in
    let h = one.tells.0 t in
    let h1 = h.1 in
    let lower = norm_mono a b m n same one.norm two.norm below h.0 in
    let inside : IsOperand n.vars x = (let P : ℕ → Type 0 = λ v. IsOperand v x in subst P (sym two.norm.vars) hx) in
    let d = dif_mono m n x (Lit (pos 0)) lower inside tt in
    two.tells.1 (lower.not_bottom, omega (arith, ints))

pub step_mono : (c : Simple) (A B : Assumed) (a b : Zone) (r s : Stepped) → a.vars ≡ b.vars → IsSimpleInside b.vars c → HasWords c → IsStepped c A a r → IsStepped c B b s → IsLess A B → IsBelow a b →
    IsBelow r.zone s.zone × (IsTrue r.unproved → IsTrue s.unproved)
step_mono (Set to from) A B a b r s same inside words one two less below =
    (assign_mono a b r.zone s.zone to.0 (Copy (zone_operand from)) same inside.0.0 inside.1 one.zone two.zone below, never r.unproved one.unproved)
step_mono (Arith to op left right site) A B a b r s same inside words one two less below = (
  assign_mono a b r.zone s.zone to.0 (Arith (zone_op op) (zone_operand left) (zone_operand right)) same inside.0.0 (inside.1, inside.2) one.zone two.zone below,
  arith_tells (zone_op op) a b (zone_operand left) (zone_operand right) r.unproved s.unproved same inside.1 inside.2 (fit_operand left words.0) one.unproved two.unproved below,
)
step_mono (Ask to callee args) A B a b r s same inside words one two less below =
    (word_mono a b r.zone s.zone to.0 (A callee) (B callee) same inside.0 (less callee) one.zone two.zone below, never r.unproved one.unproved)
step_mono (Assert test site) A B a b r s same inside words one two less below = (
  guard_mono a b r.zone s.zone (zone_test test) same inside.0 inside.1 one.zone two.zone below,
  test_tells (zone_test test) a b r.unproved s.unproved same inside.0 inside.1 one.unproved two.unproved below,
)

pub branch_mono : (code : CodeTest) (a b first second first' second' : Zone) → a.vars ≡ b.vars → IsTestInside b.vars code → IsBranched code a first second → IsBranched code b first' second' → IsBelow a b →
    IsBelow first first' × IsBelow second second'
branch_mono code a b first second first' second' same inside one two below = (
  guard_mono a b first first' (zone_test code) same inside.0 inside.1 one.holds two.holds below,
  guard_mono a b second second' (negation (zone_test code)) same inside.0 inside.1 one.fails two.fails below,
)

assigned_vars : (z r : Zone) (to : ℕ) (value : ZoneValue) → IsAssigned z to value r → r.vars ≡ z.vars
assigned_vars z r to value is = let a = is.drops.vars in let b = is.greatest.vars in omega arith

pub head_mono : (i slot : Slot) (code : CodeOperand) (most : ℤ) (a b : Zone) (r s : Stepped) → a.vars ≡ b.vars → IsVariable b.vars i → IsVariable b.vars slot → IsInside b.vars code →
    IsHead i slot code most a r → IsHead i slot code most b s → IsBelow a b → IsBelow r.zone s.zone × (IsTrue r.unproved → IsTrue s.unproved)
head_mono i slot code most a b r s same hi hs inside one two below =
    let x = zone_operand code in
    let capped = guard_mono a b one.capped two.capped (at_most x (Lit most)) same inside tt one.guard two.guard below in
    let same' : one.capped.vars ≡ two.capped.vars = one.guard.greatest.vars ∙ same ∙ sym two.guard.greatest.vars in
    let inside' : IsOperand two.capped.vars x = (let P : ℕ → Type 0 = λ v. IsOperand v x in subst P (sym two.guard.greatest.vars) inside) in
    let copied = assign_mono one.capped two.capped one.copied two.copied slot.0 (Copy x) same' hs.0 inside' one.copy two.copy capped in
    let same'' : one.copied.vars ≡ two.copied.vars = assigned_vars one.capped one.copied slot.0 (Copy x) one.copy ∙ same' ∙ sym (assigned_vars two.capped two.copied slot.0 (Copy x) two.copy) in (
      assign_mono one.copied two.copied r.zone s.zone i.0 (Copy (Lit (pos 0))) same'' hi.0 tt one.zone two.zone copied,
      bound_tells x most a b r.unproved s.unproved same inside one.unproved two.unproved below,
    )

pub turn_mono : (i slot : Slot) (a b r s : Zone) → a.vars ≡ b.vars → IsVariable b.vars i → IsVariable b.vars slot → IsTurn i slot a r → IsTurn i slot b s → IsBelow a b → IsBelow r s
turn_mono i slot a b r s same hi hs one two below = guard_mono a b r s (less (Var i.0) (Var slot.0)) same hi hs one two below

pub again_mono : (i : Slot) (a b r s : Zone) → a.vars ≡ b.vars → IsVariable b.vars i → IsAgain i a r → IsAgain i b s → IsBelow a b → IsBelow r s
again_mono i a b r s same hi one two below = assign_mono a b r s i.0 (Arith Add (Var i.0) (Lit (pos 1))) same hi.0 (hi, tt) one two below

at_or_off : (i j x : ℕ) → ((i ≡ x) ⊎ (j ≡ x)) ⊎ ((i ≢ x) × (j ≢ x))
at_or_off i j x = ⊎_elim (λ (at : i ≡ x). inl (inl at)) (λ (off : i ≢ x). ⊎_elim (λ (at : j ≡ x). inl (inr at)) (λ (off' : j ≢ x). inr (off, off')) (cases_eq j x)) (cases_eq i x)

freed_mono : (a b f g : Zone) (x : ℕ) → a.vars ≡ b.vars → IsFreed a f x → IsFreed b g x → IsBelow a b → IsBelow f g
freed_mono a b f g x same one two below up =
    let here = below (false_along f.bottom a.bottom one.bottom up) in
    let v = one.vars in
    let v' = two.vars in
    record {
      not_bottom = false_along b.bottom g.bottom (sym two.bottom) here.not_bottom;
      bounds = λ i j hi hj. ⊎_elim
          (λ (at : (i ≡ x) ⊎ (j ≡ x)). rw (one.freed i j (omega arith) (omega arith) at, two.freed i j (omega arith) (omega arith) at) (omega (arith, ints)))
          (λ off. rw (one.others i j (omega arith) (omega arith) off.0 off.1, two.others i j (omega arith) (omega arith) off.0 off.1) (here.bounds i j (omega arith) (omega arith)))
          (at_or_off i j x);
      marks = λ i from hi marked. ⊎_elim
          (λ (at : i ≡ x). absurd (two.unmarked (rw at at marked)))
          (λ (off : i ≢ x). true_along (mark_of a i) (mark_of f i) (sym (one.marks i off)) (here.marks i from (omega arith) (true_along (mark_of g i) (mark_of b i) (two.marks i off) marked)))
          (cases_eq i x);
    }

pub leave_mono : (i slot : Slot) (a b r s : Zone) → a.vars ≡ b.vars → IsVariable b.vars i → IsVariable b.vars slot → IsLeft i slot a r → IsLeft i slot b s → IsBelow a b → IsBelow r s
leave_mono i slot a b r s same hi hs one two below up =
    let last = guard_mono a b one.last two.last (at_most (Var slot.0) (Var i.0)) same hs hi one.guard two.guard below in
    let same' : one.last.vars ≡ two.last.vars = one.guard.greatest.vars ∙ same ∙ sym two.guard.greatest.vars in
    ⊎_elim
    (λ (none : IsTrue one.last.bottom). absurd (clash r.bottom (one.bottom none) up))
    (λ (some : IsFalse one.last.bottom).
    let f = one.forgotten some in
    let g = two.forgotten (last some).not_bottom in
    let half = freed_mono one.last two.last f.half g.half i.0 same' f.index_freed g.index_freed last in
    let same'' : f.half.vars ≡ g.half.vars = f.index_freed.vars ∙ same' ∙ sym g.index_freed.vars in
    let free = freed_mono f.half g.half f.free g.free slot.0 same'' f.slot_freed g.slot_freed half in
    norm_mono f.free g.free r s (f.slot_freed.vars ∙ same'' ∙ sym g.slot_freed.vars) f.norm g.norm free up)
    (is_or_not one.last.bottom)

pub step_normal : (c : Simple) (A : Assumed) (z : Zone) (r : Stepped) → IsSimpleInside z.vars c → IsStepped c A z r → IsNormal r.zone × (r.zone.vars ≡ z.vars)
step_normal (Set to from) A z r inside is = (assign_normal z r.zone to.0 (Copy (zone_operand from)) inside.0.0 is.zone, assigned_vars z r.zone to.0 (Copy (zone_operand from)) is.zone)
step_normal (Arith to op left right site) A z r inside is =
    let given : ZoneValue = Arith (zone_op op) (zone_operand left) (zone_operand right) in
    (assign_normal z r.zone to.0 given inside.0.0 is.zone, assigned_vars z r.zone to.0 given is.zone)
step_normal (Ask to callee args) A z r inside is = (assign_normal z r.zone to.0 (Within (A callee)) inside.0 is.zone, assigned_vars z r.zone to.0 (Within (A callee)) is.zone)
step_normal (Assert test site) A z r inside is = (is.zone.greatest.normal, is.zone.greatest.vars)

pub head_normal : (i slot : Slot) (code : CodeOperand) (most : ℤ) (z : Zone) (r : Stepped) → IsVariable z.vars i → IsVariable z.vars slot → IsHead i slot code most z r → IsNormal r.zone × (r.zone.vars ≡ z.vars)
head_normal i slot code most z r hi hs is = (
  assign_normal is.copied r.zone i.0 (Copy (Lit (pos 0))) hi.0 is.zone,
  assigned_vars is.copied r.zone i.0 (Copy (Lit (pos 0))) is.zone ∙ assigned_vars is.capped is.copied slot.0 (Copy (zone_operand code)) is.copy ∙ is.guard.greatest.vars,
)

pub again_normal : (i : Slot) (z r : Zone) → IsVariable z.vars i → IsAgain i z r → IsNormal r × (r.vars ≡ z.vars)
again_normal i z r hi is = (assign_normal z r i.0 (Arith Add (Var i.0) (Lit (pos 1))) hi.0 is, assigned_vars z r i.0 (Arith Add (Var i.0) (Lit (pos 1))) is)
