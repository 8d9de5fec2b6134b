-- Norms and guards keep points and the order of states.
use Rattle.std.proofs.Common.{◌∙◌, ◌≡◌, ◌≢◌, ℕ, ℤ, pos, ◌+ℤ◌, ◌-ℤ◌, ◌≤ℤ◌, arith, sym, subst}
use Rattle.std.proofs.lemmas.Int.{ints}
use Rattle.vmv_zone.specs.declared.zone.Zone.{Zone}
use Rattle.vmv_zone.specs.declared.rel.ZoneRel.{ZoneRel}
use Rattle.vmv_zone.specs.declared.rel.ZoneRel.TheVariants.{Equal, Unequal, Less, AtMost, Greater, AtLeast}
use Rattle.vmv_zone.specs.declared.operand.ZoneOperand.{ZoneOperand}
use Rattle.vmv_zone.specs.declared.operand.ZoneOperand.TheVariants.{Lit, Var}
use Rattle.vmv_zone.specs.declared.operand.ZoneTest.{ZoneTest}
use Rattle.vmv_zone.specs.Rel.{Meets}
use Rattle.vmv_zone.specs.Zone.{HasPoint, IsTighter, IsBelow, IsNormOf}
use Rattle.vmv_zone.specs.Operand.{thing, shift, value_at, dif, up, IsOperand, IsNonzero, IsZero}
use Rattle.vmv_zone.specs.Step.{Tested, IsGuarded}
use Rattle.vmv_zone.proofs.Operands.{thing_inside}
use Rattle.vmv_zone.proofs.States.{below_trans, norm_mono}
use Rattle.vmv_zone.proofs.PointStates.{PointState, point_state, point_normal, point_below, below_point}

pub value_is : (p : ℕ → ℤ) (o : ZoneOperand) → p 0 ≡ pos 0 → value_at p o ≡ p (thing o) +ℤ shift o
value_is p (Lit c) origin = omega (arith, ints)
value_is p (Var y) origin = omega (arith, ints)

-- differences of values at a point are at most the bounds
pub point_dif : (m : Zone) (p : ℕ → ℤ) (x y : ZoneOperand) → HasPoint m p → IsOperand m.vars x → IsOperand m.vars y → (value_at p x -ℤ value_at p y) ≤ℤ dif m x y
point_dif m p x y point hx hy =
    let ex = value_is p x point.zero in
    let ey = value_is p y point.zero in
    let h = point.bounds (thing x) (thing y) (thing_inside m.vars x hx) (thing_inside m.vars y hy) in
    omega (arith, ints)

-- in the state of a point the bounds are the differences of values
pub state_dif : {v : ℕ} {p : ℕ → ℤ} (s : PointState v p) (x y : ZoneOperand) → p 0 ≡ pos 0 → IsOperand v x → IsOperand v y → dif s.state x y ≡ value_at p x -ℤ value_at p y
state_dif {v = v} {p = p} s x y origin hx hy =
    let ex = value_is p x origin in
    let ey = value_is p y origin in
    let h = s.bounds (thing x) (thing y) (thing_inside v x hx) (thing_inside v y hy) in
    omega (arith, ints)

pub state_nonzero : {v : ℕ} {p : ℕ → ℤ} (s : PointState v p) (x : ZoneOperand) → IsOperand v x → value_at p x ≢ pos 0 → IsNonzero s.state x
state_nonzero s (Lit c) hx h = h
state_nonzero s (Var y) hx h = (s.marks y hx.0 hx.1).1 h

pub point_nonzero : (m : Zone) (p : ℕ → ℤ) (x : ZoneOperand) → HasPoint m p → IsOperand m.vars x → IsNonzero m x → value_at p x ≢ pos 0
point_nonzero m p (Lit c) point hx h = h
point_nonzero m p (Var y) point hx h = point.marks y hx.0 hx.1 h

zero_value : (p : ℕ → ℤ) (x : ZoneOperand) → IsZero x → value_at p x ≡ pos 0
zero_value p (Lit c) h = h
zero_value p (Var y) h = absurd h

-- what a test adds holds in the state of a point that meets it
pub tested_point : (rel : ZoneRel) (m : Zone) {p : ℕ → ℤ} (s : PointState m.vars p) (x y : ZoneOperand) → IsOperand m.vars x → IsOperand m.vars y → HasPoint m p →
    Meets rel (value_at p x) (value_at p y) → Tested rel m s.state x y
tested_point Equal m s x y hx hy point meets =
    let e = state_dif s x y point.zero hx hy in
    let e' = state_dif s y x point.zero hy hx in
    record { high = omega (arith, ints); low = omega (arith, ints) }
tested_point Unequal m {p = p} s x y hx hy point meets =
    let e = state_dif s x y point.zero hx hy in
    let e' = state_dif s y x point.zero hy hx in
    let h = point_dif m p x y point hx hy in
    let h' = point_dif m p y x point hy hx in
    record {
      above = λ zero_is. grind (arith, ints);
      below = λ zero_is. grind (arith, ints);
      left = λ z. let zv = zero_value p y z in state_nonzero s x hx (λ e. meets (e ∙ sym zv));
      right = λ z. let zv = zero_value p x z in state_nonzero s y hy (λ e. meets (zv ∙ sym e));
    }
tested_point Less m s x y hx hy point meets = let e = state_dif s x y point.zero hx hy in omega (arith, ints)
tested_point AtMost m s x y hx hy point meets = let e = state_dif s x y point.zero hx hy in omega (arith, ints)
tested_point Greater m s x y hx hy point meets = let e = state_dif s y x point.zero hy hx in omega (arith, ints)
tested_point AtLeast m s x y hx hy point meets = let e = state_dif s y x point.zero hy hx in omega (arith, ints)

pub norm_point : (z m : Zone) (p : ℕ → ℤ) → IsNormOf z m → HasPoint z p → HasPoint m p
norm_point z m p norm point =
    let s = point_state z.vars p z.few point.zero point.words in
    below_point s m norm.vars point.zero point.words
    (norm.greatest s.state s.vars (point_normal s point.zero) (λ up. point_below s z (omega arith) point) s.up)

pub guard_point : (z g : Zone) (test : ZoneTest) (p : ℕ → ℤ) → IsOperand z.vars test.left → IsOperand z.vars test.right → IsGuarded z test g → HasPoint z p →
    Meets test.rel (value_at p test.left) (value_at p test.right) → HasPoint g p
guard_point z g test p hl hr guarded point meets =
    let m = guarded.before in
    let vars = guarded.norm.vars in
    let here = norm_point z m p guarded.norm point in
    let s = point_state m.vars p m.few here.zero here.words in
    let inside : (o : ZoneOperand) → IsOperand z.vars o → IsOperand m.vars o = λ o h. (let P : ℕ → Type 0 = λ k. IsOperand k o in subst P (sym vars) h) in
    below_point s g (guarded.greatest.vars ∙ sym vars) here.zero here.words
    (guarded.greatest.greatest s.state (s.vars ∙ vars) (point_normal s here.zero) (λ up. point_below s m (omega arith) here)
    (λ up. tested_point test.rel m s test.left test.right (inside test.left hl) (inside test.right hr) here meets) s.up)

-- bounds on operands are lower in a lower state
pub dif_mono : (a b : Zone) (x y : ZoneOperand) → IsTighter a b → IsOperand b.vars x → IsOperand b.vars y → dif a x y ≤ℤ dif b x y
dif_mono a b x y tight hx hy = let h = tight.bounds (thing x) (thing y) (thing_inside b.vars x hx) (thing_inside b.vars y hy) in omega (arith, ints)

pub nonzero_mono : (a b : Zone) (x : ZoneOperand) → IsTighter a b → IsOperand b.vars x → IsNonzero b x → IsNonzero a x
nonzero_mono a b (Lit c) tight hx h = h
nonzero_mono a b (Var y) tight hx h = tight.marks y hx.0 hx.1 h

-- what a test adds to a lower state is no less
pub tested_mono : (rel : ZoneRel) (a b n : Zone) (x y : ZoneOperand) → IsTighter a b → IsTighter n a → a.vars ≡ b.vars → IsOperand b.vars x → IsOperand b.vars y → Tested rel a n x y → Tested rel b n x y
tested_mono Equal a b n x y tight under same hx hy h = h
tested_mono Unequal a b n x y tight under same hx hy h =
    let inside : (o : ZoneOperand) → IsOperand b.vars o → IsOperand a.vars o = λ o h. (let P : ℕ → Type 0 = λ k. IsOperand k o in subst P (sym same) h) in
    let one = dif_mono a b x y tight hx hy in
    let two = dif_mono a b y x tight hy hx in
    let three = dif_mono n a x y under (inside x hx) (inside y hy) in
    let four = dif_mono n a y x under (inside y hy) (inside x hx) in
    let above = h.above in
    let below = h.below in
    record { above = λ e. grind (arith, ints); below = λ e. grind (arith, ints); left = h.left; right = h.right }
tested_mono Less a b n x y tight under same hx hy h = h
tested_mono AtMost a b n x y tight under same hx hy h = h
tested_mono Greater a b n x y tight under same hx hy h = h
tested_mono AtLeast a b n x y tight under same hx hy h = h

pub guard_mono : (a b g h : Zone) (test : ZoneTest) → a.vars ≡ b.vars → IsOperand b.vars test.left → IsOperand b.vars test.right →
    IsGuarded a test g → IsGuarded b test h → IsBelow a b → IsBelow g h
guard_mono a b g h test same hl hr one two below up =
    let m = one.before in
    let m' = two.before in
    let lower = norm_mono a b m m' same one.norm two.norm below in
    let great = one.greatest in
    let under = great.below up in
    let above = lower under.not_bottom in
    let vars : m.vars ≡ m'.vars = one.norm.vars ∙ same ∙ sym two.norm.vars in
    let inside : (o : ZoneOperand) → IsOperand b.vars o → IsOperand m'.vars o = λ o h. (let P : ℕ → Type 0 = λ k. IsOperand k o in subst P (sym two.norm.vars) h) in
    two.greatest.greatest g (great.vars ∙ same) great.normal (below_trans g m m' vars great.below lower)
    (λ up. tested_mono test.rel m m' g test.left test.right above under vars (inside test.left hl) (inside test.right hr) (great.has up)) up
