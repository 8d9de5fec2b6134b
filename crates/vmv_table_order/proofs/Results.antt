-- Each step of a walk has a result.
use Rattle.std.proofs.Common.{◌≡◌, ◌⊎◌, ◌↔◌, inl, inr, ℕ, zero, suc, ◌≤◌, ℤ, pos, Bool, true, false, IsTrue, List, [], ◌∷◌, length, get_or, ◌<ℤ◌, FitsSigned, refl, arith, ◌∙◌}
use Rattle.std.specs.Int.{w64}
use Rattle.std.proofs.lemmas.Int.{ints}
use Rattle.std.proofs.lemmas.List.{length-map}
use Rattle.std.specs.List.{All}
use Rattle.vmv_snapshot.specs.declared.code.Slot.{Slot}
use Rattle.vmv_snapshot.specs.declared.code.CodeOperand.{CodeOperand}
use Rattle.vmv_snapshot.specs.declared.code.CodeOperand.TheVariants.{Lit, Var}
use Rattle.vmv_snapshot.specs.declared.code.CodeTest.{CodeTest}
use Rattle.vmv_snapshot.specs.declared.code.Simple.{Simple}
use Rattle.vmv_snapshot.specs.declared.code.Simple.TheVariants.{Set, Arith, Ask, Assert}
use Rattle.vmv_zone.specs.declared.zone.Zone.{Zone}
use Rattle.vmv_zone.specs.declared.operand.ZoneOp.TheVariants.{Add}
use Rattle.vmv_zone.specs.declared.operand.ZoneOperand.TheVariants.{Lit, Var}
use Rattle.vmv_zone.specs.declared.operand.ZoneValue.TheVariants.{Copy, Arith, Within}
use Rattle.vmv_zone.specs.Zone.{NotBottom}
use Rattle.vmv_zone.specs.Operand.{shift, up}
use Rattle.vmv_zone.specs.Args.{argument_at, IsArgsOf}
use Rattle.vmv_zone.proofs.Equal.{by_truth}
use Rattle.vmv_states_exist.proofs.Greatest.{norm_exists}
use Rattle.vmv_states_exist.proofs.Kept.{guard_exists}
use Rattle.vmv_states_exist.proofs.Dropping.{assignment_exists}
use Rattle.vmv_states_exist.proofs.Operands.{args_exist as passed_exist}
use Rattle.vmv_states_exist.proofs.Freed.{freed_exists}
use Rattle.vmv_assumption.specs.Assumed.{Assumed}
use Rattle.vmv_step.specs.declared.stepped.Stepped.{Stepped}
use Rattle.vmv_step.specs.Zones.{zone_operand, zone_args, zone_op, zone_test, negation, IsVariable, AreInside}
use Rattle.vmv_step.specs.Fails.{MayFail}
use Rattle.vmv_step.specs.Steps.{IsSimpleInside, IsStepped, IsBranched}
use Rattle.vmv_step.specs.Loops.{less, at_most, IsHead, IsTurn, IsAgain, IsForgotten, IsLeft}
use Rattle.vmv_step.specs.Agree.{IsWordOperand}
use Rattle.vmv_step.proofs.Arguments.{all_inside}
use Rattle.vmv_step.proofs.Result.{word_fits}
use Rattle.vmv_step.proofs.Told.{left_none, left_some}
use Rattle.vmv_table_order.proofs.Parts.{assigned_vars}

-- each fact holds or not
pub decided : (P : Type 0) → ¬ (¬ (P ⊎ (P → ⊥)))
decided P k = k (inr (λ p. k (inl p)))

-- a Bool tells each fact
pub told : (P : Type 0) → ¬ (¬ ((b : Bool) × (IsTrue b ↔ P)))
told P k = k (false, ((λ t. absurd (cc)), (λ p. absurd (k (true, ((λ t. p), (λ q. refl)))))))

pub stepped_exists : (simple : Simple) (A : Assumed) (z : Zone) → z.vars ≤ 16 → IsSimpleInside z.vars simple → ¬ (¬ ((s : Stepped) × IsStepped simple A z s))
stepped_exists (Set to from) A z few inside k =
    assignment_exists z to.0 (Copy (zone_operand from)) few inside.0.0 (λ r. k (record { zone = r.0; unproved = false }, record { zone = r.1; unproved = refl }))
stepped_exists (Arith to op left right site) A z few inside k =
    assignment_exists z to.0 (Arith (zone_op op) (zone_operand left) (zone_operand right)) few inside.0.0
    (λ r. norm_exists z
    (λ m. told (NotBottom m.0 × MayFail (zone_op op) m.0 (zone_operand left) (zone_operand right))
    (λ b. k (record { zone = r.0; unproved = b.0 }, record { zone = r.1; unproved = record { before = m.0; norm = m.1; tells = b.1 } }))))
stepped_exists (Ask to callee args) A z few inside k =
    assignment_exists z to.0 (Within (A callee)) few inside.0 (λ r. k (record { zone = r.0; unproved = false }, record { zone = r.1; unproved = refl }))
stepped_exists (Assert test site) A z few inside k =
    guard_exists z (zone_test test)
    (λ g. guard_exists z (negation (zone_test test))
    (λ f. told (NotBottom f.0) (λ b. k (record { zone = g.0; unproved = b.0 }, record { zone = g.1; unproved = record { failing = f.0; guard = f.1; tells = b.1 } }))))

pub branched_exists : (test : CodeTest) (z : Zone) → ¬ (¬ ((one : Zone) × (two : Zone) × IsBranched test z one two))
branched_exists test z k =
    guard_exists z (zone_test test) (λ g. guard_exists z (negation (zone_test test)) (λ f. k (g.0, f.0, record { holds = g.1; fails = f.1 })))

pub head_exists : (index slot : Slot) (bound : CodeOperand) (most : ℤ) (z : Zone) → z.vars ≤ 16 → IsVariable z.vars index → IsVariable z.vars slot → ¬ (¬ ((s : Stepped) × IsHead index slot bound most z s))
head_exists index slot bound most z few hi hs k =
    let x = zone_operand bound in
    guard_exists z (at_most x (Lit most))
    (λ g. let v : g.0.vars ≡ z.vars = g.1.greatest.vars in assignment_exists g.0 slot.0 (Copy x) (omega (arith, v, few)) hs.0
    (λ c. let u : c.0.vars ≡ g.0.vars = assigned_vars g.0 c.0 slot.0 (Copy x) c.1 in assignment_exists c.0 index.0 (Copy (Lit (pos 0))) (omega (arith, v, u, few)) hi.0
    (λ r. norm_exists z
    (λ m. told (NotBottom m.0 × (most <ℤ up m.0 x))
    (λ b. k (record { zone = r.0; unproved = b.0 }, record { capped = g.0; guard = g.1; copied = c.0; copy = c.1; zone = r.1; unproved = record { before = m.0; norm = m.1; tells = b.1 } }))))))

pub turn_exists : (index slot : Slot) (z : Zone) → ¬ (¬ ((r : Zone) × IsTurn index slot z r))
turn_exists index slot z k = guard_exists z (less (Var index.0) (Var slot.0)) k

pub again_exists : (index : Slot) (z : Zone) → z.vars ≤ 16 → IsVariable z.vars index → ¬ (¬ ((r : Zone) × IsAgain index z r))
again_exists index z few hi k = assignment_exists z index.0 (Arith Add (Var index.0) (Lit (pos 1))) few hi.0 k

forgotten_exists : (index slot : Slot) (z : Zone) → NotBottom z → ¬ (¬ ((r : Zone) × IsForgotten index slot z r × (r.vars ≡ z.vars)))
forgotten_exists index slot z some k =
    let half = freed_exists z index.0 some in
    let free = freed_exists half.0 slot.0 (half.1.bottom ∙ some) in
    norm_exists free.0 (λ r. k (r.0, record { half = half.0; index_freed = half.1; free = free.0; slot_freed = free.1; norm = r.1 }, r.1.vars ∙ (free.1.vars ∙ half.1.vars)))

pub left_exists : (index slot : Slot) (z : Zone) → ¬ (¬ ((r : Zone) × IsLeft index slot z r))
left_exists index slot z k =
    guard_exists z (at_most (Var slot.0) (Var index.0))
    (λ g. by_truth g.0.bottom (λ none. k (g.0, left_none index slot z g.0 (at_most (Var slot.0) (Var index.0)) g.1 refl none))
    (λ some. forgotten_exists index slot g.0 some (λ r. k (r.0, left_some index slot z g.0 r.0 (at_most (Var slot.0) (Var index.0)) g.1 refl some r.1 r.2))))

zero_fits : FitsSigned w64 (pos 0)
zero_fits = omega (arith, ints)

operand_fits : (c : CodeOperand) → IsWordOperand c → FitsSigned w64 (shift (zone_operand c))
operand_fits (Lit w) word = word_fits w word
operand_fits (Var n) word = zero_fits

-- the literals of arguments are words
argument_fits : (codes : List CodeOperand) (k : ℕ) → All IsWordOperand codes → FitsSigned w64 (shift (get_or (zone_args codes) k (Lit (pos 0))))
argument_fits [] k words = zero_fits
argument_fits (c ∷ codes) zero words = operand_fits c (words 0 c (omega arith))
argument_fits (c ∷ codes) (suc k) words = argument_fits codes k (λ j d h. words (suc j) d (omega (arith, h)))

arguments_fit : (codes : List CodeOperand) → All IsWordOperand codes → (i : ℕ) → FitsSigned w64 (shift (argument_at (zone_args codes) i))
arguments_fit codes words zero = zero_fits
arguments_fit codes words (suc k) = argument_fits codes k words

pub args_exist : (codes : List CodeOperand) (z : Zone) → length codes ≤ 16 → AreInside z.vars codes → All IsWordOperand codes → ¬ (¬ ((r : Zone) × IsArgsOf z (zone_args codes) r))
args_exist codes z few inside words k =
    let long = length-map codes zone_operand in
    passed_exist z (zone_args codes) (omega (arith, long)) (all_inside z.vars codes (zone_args codes) refl inside) (λ i hi. arguments_fit codes words i) k
