-- Each step of a walk gives one state.
use Rattle.std.proofs.Common.{◌≡◌, ◌↔◌, ℕ, ℤ, pos, Bool, IsTrue, refl, sym, subst, arith, ◌∙◌, ◌<ℤ◌}
use Rattle.vmv_cond.specs.declared.cond.Cond.{Cond}
use Rattle.vmv_cond.proofs.Same.{same_words}
use Rattle.vmv_cond.specs.Cond.{Holds}
use Rattle.vmv_snapshot.specs.declared.code.Slot.{Slot}
use Rattle.vmv_snapshot.specs.declared.code.CodeOperand.{CodeOperand}
use Rattle.vmv_snapshot.specs.declared.code.Simple.{Simple}
use Rattle.vmv_snapshot.specs.declared.code.Simple.TheVariants.{Set, Arith, Ask, Assert}
use Rattle.vmv_zone.specs.declared.zone.Zone.{Zone}
use Rattle.vmv_zone.specs.declared.operand.ZoneOperand.{ZoneOperand}
use Rattle.vmv_zone.specs.declared.operand.ZoneOp.{ZoneOp}
use Rattle.vmv_zone.specs.declared.operand.ZoneOp.TheVariants.{Add}
use Rattle.vmv_zone.specs.declared.operand.ZoneOperand.TheVariants.{Lit, Var}
use Rattle.vmv_zone.specs.declared.operand.ZoneTest.{ZoneTest}
use Rattle.vmv_zone.specs.declared.operand.ZoneValue.TheVariants.{Copy, Arith, Within}
use Rattle.vmv_zone.specs.Zone.{IsBottom, NotBottom, IsNormOf, IsFreed}
use Rattle.vmv_zone.specs.Operand.{up}
use Rattle.vmv_zone.specs.Read.{IsValueOf, IsRangeOf}
use Rattle.vmv_zone.specs.Step.{IsAssigned}
use Rattle.vmv_zone.proofs.Equal.{by_truth, norm_once}
use Rattle.vmv_assumption.specs.Assumed.{Assumed}
use Rattle.vmv_step.specs.declared.stepped.Stepped.{Stepped}
use Rattle.vmv_step.specs.Zones.{zone_operand, zone_op, zone_test, negation}
use Rattle.vmv_step.specs.Fails.{MayFail, TellsArith, TellsTest, TellsBound}
use Rattle.vmv_step.specs.Steps.{IsAfter, Tells, IsStepped}
use Rattle.vmv_step.specs.Loops.{less, at_most, IsHead, IsTurn, IsAgain, IsForgotten, IsLeft}
use Rattle.vmv_step.specs.Enter.{IsStart, IsEntered}
use Rattle.vmv_table_laws.proofs.States.{told_once, chain, same_at, bottoms_once, guarded_once, assigned_once, freed_once}

pub after_once : (s : Simple) (A : Assumed) (z r t : Zone) → IsAfter s A z r → IsAfter s A z t → r ≡ t
after_once (Set to from) A z r t a b = assigned_once to.0 (Copy (zone_operand from)) z r t a b
after_once (Arith to op left right site) A z r t a b = assigned_once to.0 (Arith (zone_op op) (zone_operand left) (zone_operand right)) z r t a b
after_once (Ask to callee args) A z r t a b = assigned_once to.0 (Within (A callee)) z r t a b
after_once (Assert test site) A z r t a b = guarded_once (zone_test test) z r t a b

arith_once : (op : ZoneOp) (z : Zone) (x y : ZoneOperand) (a b : Bool) → TellsArith op z x y a → TellsArith op z x y b → a ≡ b
arith_once op z x y a b h g =
    let same : h.before ≡ g.before = norm_once z h.before g.before h.norm g.norm in
    told_once (NotBottom g.before × MayFail op g.before x y) a b (subst (λ (m : Zone). IsTrue a ↔ (NotBottom m × MayFail op m x y)) same h.tells) g.tells

test_once : (test : ZoneTest) (z : Zone) (a b : Bool) → TellsTest test z a → TellsTest test z b → a ≡ b
test_once test z a b h g =
    let same : h.failing ≡ g.failing = guarded_once (negation test) z h.failing g.failing h.guard g.guard in
    told_once (NotBottom g.failing) a b (subst (λ (m : Zone). IsTrue a ↔ NotBottom m) same h.tells) g.tells

bound_once : (x : ZoneOperand) (cap : ℤ) (z : Zone) (a b : Bool) → TellsBound x cap z a → TellsBound x cap z b → a ≡ b
bound_once x cap z a b h g =
    let same : h.before ≡ g.before = norm_once z h.before g.before h.norm g.norm in
    told_once (NotBottom g.before × (cap <ℤ up g.before x)) a b (subst (λ (m : Zone). IsTrue a ↔ (NotBottom m × (cap <ℤ up m x))) same h.tells) g.tells

tells_once : (s : Simple) (z : Zone) (a b : Bool) → Tells s z a → Tells s z b → a ≡ b
tells_once (Set to from) z a b h g = h ∙ sym g
tells_once (Arith to op left right site) z a b h g = arith_once (zone_op op) z (zone_operand left) (zone_operand right) a b h g
tells_once (Ask to callee args) z a b h g = h ∙ sym g
tells_once (Assert test site) z a b h g = test_once (zone_test test) z a b h g

same_stepped : (s t : Stepped) → s.zone ≡ t.zone → s.unproved ≡ t.unproved → s ≡ t
same_stepped s t e f =
    let P : Zone → Type 0 = λ z. s ≡ record { zone = z; unproved = s.unproved } in
    let Q : Bool → Type 0 = λ b. s ≡ record { zone = t.zone; unproved = b } in
    subst Q f (subst P e refl)

pub stepped_once : (simple : Simple) (A : Assumed) (z : Zone) (s t : Stepped) → IsStepped simple A z s → IsStepped simple A z t → s ≡ t
stepped_once simple A z s t a b = same_stepped s t (after_once simple A z s.zone t.zone a.zone b.zone) (tells_once simple z s.unproved t.unproved a.unproved b.unproved)

pub head_once : (index slot : Slot) (bound : CodeOperand) (most : ℤ) (z : Zone) (s t : Stepped) → IsHead index slot bound most z s → IsHead index slot bound most z t → s ≡ t
head_once index slot bound most z s t a b =
    let capped = guarded_once (at_most (zone_operand bound) (Lit most)) z a.capped b.capped a.guard b.guard in
    let first = Copy (zone_operand bound) in
    let copied = chain (λ x y. IsAssigned x slot.0 first y) (assigned_once slot.0 first) a.capped b.capped a.copied b.copied capped a.copy b.copy in
    let zero = Copy (Lit (pos 0)) in
    let zone = chain (λ x y. IsAssigned x index.0 zero y) (assigned_once index.0 zero) a.copied b.copied s.zone t.zone copied a.zone b.zone in
    same_stepped s t zone (bound_once (zone_operand bound) most z s.unproved t.unproved a.unproved b.unproved)

pub turn_once : (index slot : Slot) (z r s : Zone) → IsTurn index slot z r → IsTurn index slot z s → r ≡ s
turn_once index slot z r s a b = guarded_once (less (Var index.0) (Var slot.0)) z r s a b

pub again_once : (index : Slot) (z r s : Zone) → IsAgain index z r → IsAgain index z s → r ≡ s
again_once index z r s a b = assigned_once index.0 (Arith Add (Var index.0) (Lit (pos 1))) z r s a b

forgotten_once : (index slot : Slot) (z r s : Zone) → IsForgotten index slot z r → IsForgotten index slot z s → r ≡ s
forgotten_once index slot z r s a b =
    let half = freed_once index.0 z a.half b.half a.index_freed b.index_freed in
    let free = chain (λ x y. IsFreed x y slot.0) (freed_once slot.0) a.half b.half a.free b.free half a.slot_freed b.slot_freed in
    chain IsNormOf norm_once a.free b.free r s free a.norm b.norm

pub left_once : (index slot : Slot) (z r s : Zone) → IsLeft index slot z r → IsLeft index slot z s → r ≡ s
left_once index slot z r s a b =
    let last = guarded_once (at_most (Var slot.0) (Var index.0)) z a.last b.last a.guard b.guard in
    by_truth a.last.bottom
    (λ t. bottoms_once r s (a.vars ∙ sym b.vars) (a.bottom t) (b.bottom (subst (λ (x : Zone). IsBottom x) last t)))
    (λ f. chain (IsForgotten index slot) (forgotten_once index slot) a.last b.last r s last (a.forgotten f) (b.forgotten (subst (λ (x : Zone). NotBottom x) last f)))

start_once : (input : Zone) (params declared count : ℕ) (r s : Zone) → IsStart input params declared count r → IsStart input params declared count s → r ≡ s
start_once input params declared count r s a b =
    let v = a.vars in
    same_at r s (a.vars ∙ sym b.vars) (a.not_bottom ∙ sym b.not_bottom)
    (λ f i j hi hj. a.bounds i j (omega (arith, v)) (omega (arith, v)) ∙ sym (b.bounds i j (omega (arith, v)) (omega (arith, v))))
    (λ f i one hi. a.marks i (omega (arith, v)) ∙ sym (b.marks i (omega (arith, v))))

pub entered_once : (input : Zone) (params declared count : ℕ) (r s : Zone) → IsEntered input params declared count r → IsEntered input params declared count s → r ≡ s
entered_once input params declared count r s a b =
    by_truth input.bottom (λ t. bottoms_once r s (a.vars ∙ sym b.vars) (a.bottom t) (b.bottom t))
    (λ f.
    let x = a.entered f in
    let y = b.entered f in
    chain IsNormOf norm_once x.0 y.0 r s (start_once input params declared count x.0 y.0 x.1 y.1) x.2 y.2)

-- what holds the same words is one condition
pub cond_once : (P : ℤ → Type 0) (c d : Cond) → ((w : ℤ) → Holds c w ↔ P w) → ((w : ℤ) → Holds d w ↔ P w) → c ≡ d
cond_once P c d a b = same_words c d (λ w h. (b w).1 ((a w).0 h)) (λ w h. (a w).1 ((b w).0 h))

pub range_once : (z : Zone) (x : ZoneOperand) (c d : Cond) → IsRangeOf z x c → IsRangeOf z x d → c ≡ d
range_once z x c d a b =
    let same : a.before ≡ b.before = norm_once z a.before b.before a.norm b.norm in
    cond_once (IsValueOf b.before x) c d (subst (λ (m : Zone). (w : ℤ) → Holds c w ↔ IsValueOf m x w) same a.words) b.words
