-- The steps of a loop and the states of arguments keep points.
use Rattle.std.proofs.Common.{◌∙◌, ◌≡◌, ◌≢◌, inl, inr, ⊎_elim, ℕ, zero, suc, ◌+◌, ◌≤◌, ◌^◌, ◌-◌, ℤ, pos, ◌-ℤ◌, ◌+ℤ◌, ◌≤ℤ◌, ◌<ℤ◌, true, false, IsTrue, MatchBool, Some, None, List, [], ◌∷◌, length, map, get_or, slice_get, FitsSigned, arith, refl, sym, subst, ap}
use Rattle.std.specs.Prelude.{int_lt}
use Rattle.std.specs.List.{All}
use Rattle.std.specs.Int.{w64}
use Rattle.std.proofs.lemmas.Int.{ints}
use Rattle.std.proofs.lemmas.Bool.{cases_eq}
use Rattle.vmv_tree.specs.declared.name.Name.{Name}
use Rattle.vmv_tree.specs.declared.tree.Operand.{Operand}
use Rattle.vmv_tree.specs.Words.{IsWord}
use Rattle.vmv_tree.specs.Run.{Valuation, value, assign}
use Rattle.vmv_snapshot.specs.declared.code.Slot.{Slot}
use Rattle.vmv_snapshot.specs.declared.code.CodeOperand.{CodeOperand}
use Rattle.vmv_snapshot.specs.declared.code.CodeOperand.TheVariants.{Lit, Var}
use Rattle.vmv_snapshot.specs.Resolves.{Scope, IsSlot, ResolvesOperand, ResolvesArgs}
use Rattle.vmv_zone.specs.declared.zone.Zone.{Zone}
use Rattle.vmv_zone.specs.declared.operand.ZoneOperand.TheVariants.{Lit, Var}
use Rattle.vmv_zone.specs.declared.operand.ZoneOp.TheVariants.{Add}
use Rattle.vmv_zone.specs.declared.operand.ZoneValue.TheVariants.{Copy, Arith}
use Rattle.vmv_zone.specs.Bounds.{top_bound}
use Rattle.vmv_zone.specs.Zone.{HasPoint, IsFreed, mark_of}
use Rattle.vmv_zone.specs.Operand.{value_at, IsOperand}
use Rattle.vmv_zone.specs.Points.{updated}
use Rattle.vmv_zone.specs.Args.{argument_at, AreOperands, IsArgsOf}
use Rattle.vmv_zone.proofs.Confining.{true_along, false_along}
use Rattle.vmv_zone.proofs.GuardLaws.{guard_point, norm_point}
use Rattle.vmv_zone.proofs.AssignPoints.{assign_point}
use Rattle.vmv_zone.proofs.MoreLaws.{args_point}
use Rattle.vmv_step.specs.declared.stepped.Stepped.{Stepped}
use Rattle.vmv_step.specs.Zones.{zone_operand, zone_args, IsVariable}
use Rattle.vmv_step.specs.Loops.{less, at_most, IsHead, IsTurn, IsAgain, IsLeft}
use Rattle.vmv_step.specs.Agree.{AreSlots, Agrees, IsWordOperand, words_at}
use Rattle.vmv_step.proofs.Result.{word_fits}
use Rattle.vmv_step.proofs.Ends.{value_between}
use Rattle.vmv_step.proofs.Places.{within, named_inside, operand_inside, operand_value, operand_word, agrees_assigned, agrees_unnamed, agrees_back, updated_same, updated_other}
use Rattle.vmv_step.proofs.StepPoints.{by_match}

-- a point with the bound in its slot and the index 0
abbrev pub at_head : (ℕ → ℤ) → Slot → Slot → ℤ → ℕ → ℤ
at_head p i slot n = updated (updated p slot.0 n) i.0 (pos 0)

above_cap : (most n : ℤ) → int_lt most n ≡ true → most <ℤ n
above_cap most n h = grind (arith, ints)

under_cap : (most n : ℤ) → int_lt most n ≡ false → n ≤ℤ most
under_cap most n h = grind (arith, ints)

pub head_point : (scope : Scope) (index : Name) (i slot : Slot) (bound : Operand) (code : CodeOperand) (most : ℤ) (z : Zone) (r : Stepped) (v : Valuation) (p : ℕ → ℤ) → AreSlots z.vars scope.slots →
    IsSlot scope index i → slot.0 ≡ i.0 + 1 → slice_get scope.slots slot.0 ≡ Some None → ResolvesOperand scope bound code → IsWordOperand code → IsHead i slot code most z r → HasPoint z p → Agrees scope.slots v p →
    MatchBool (int_lt most (value v bound)) (IsTrue r.unproved)
    (HasPoint r.zone (updated (updated p slot.0 (value v bound)) i.0 (pos 0)) × Agrees scope.slots (assign v index (pos 0)) (updated (updated p slot.0 (value v bound)) i.0 (pos 0)))
head_point scope index i slot bound code most z r v p are at next nameless res words head point agrees =
    let n = value v bound in
    let is = operand_value scope bound code v p res agrees in
    let inside = operand_inside z.vars scope bound code are res in
    let ivar = named_inside z.vars scope.slots i.0 index are at in
    let within' = within scope.slots slot.0 None nameless in
    let count = are.count in
    let slot_to : slot.0 ≤ z.vars = omega arith in
    let fits : FitsSigned w64 n = subst (FitsSigned w64) is (word_fits _ (operand_word z code p point inside words)) in
    by_match (int_lt most n) _ _
    (λ over.
    let m = head.unproved.before in
    let here = norm_point z m p head.unproved.norm point in
    let inside' : IsOperand m.vars (zone_operand code) = (let P : ℕ → Type 0 = λ k. IsOperand k (zone_operand code) in subst P (sym head.unproved.norm.vars) inside) in
    let b = value_between m p (zone_operand code) here inside' in
    let high = b.1 in
    let above = above_cap most n over in
    head.unproved.tells.1 (here.not_bottom, omega (arith, ints)))
    (λ under.
    let low = under_cap most n under in
    let one = guard_point z head.capped (at_most (zone_operand code) (Lit most)) p inside tt head.guard point (rw is low) in
    let vars = head.guard.greatest.vars in
    let inside' : IsOperand head.capped.vars (zone_operand code) = (let P : ℕ → Type 0 = λ k. IsOperand k (zone_operand code) in subst P (sym vars) inside) in
    let few = are.few in
    let two = assign_point head.capped head.copied slot.0 (Copy (zone_operand code)) p n (omega arith) (omega arith) (omega arith) inside' head.copy one (sym is) fits in
    let drops = head.copy.drops.vars in
    let fresh = head.copy.greatest.vars in
    let ivar0 = ivar.0 in
    let ivar1 = ivar.1 in
    let three = assign_point head.copied r.zone i.0 (Copy (Lit (pos 0))) (updated p slot.0 n) (pos 0) (omega arith) (omega arith) (omega arith) tt head.zone two refl (omega (arith, ints)) in
    (three, agrees_assigned z.vars scope.slots v (updated p slot.0 n) index i.0 (pos 0) are at refl (agrees_unnamed scope.slots v p slot.0 n nameless agrees)))

pub turn_point : (i slot : Slot) (z r : Zone) (p : ℕ → ℤ) → IsVariable z.vars i → IsVariable z.vars slot → IsTurn i slot z r → HasPoint z p → p i.0 <ℤ p slot.0 → HasPoint r p
turn_point i slot z r p hi hs turn point order = guard_point z r (less (Var i.0) (Var slot.0)) p hi hs turn point order

pub again_point : (scope : Scope) (index : Name) (i : Slot) (z r : Zone) (v : Valuation) (p : ℕ → ℤ) (n : ℕ) → AreSlots z.vars scope.slots → IsSlot scope index i → IsAgain i z r → HasPoint z p → Agrees scope.slots v p →
    v index ≡ pos n → IsWord (pos (n + 1)) → HasPoint r (updated p i.0 (pos (n + 1))) × Agrees scope.slots (assign v index (pos (n + 1))) (updated p i.0 (pos (n + 1)))
again_point scope index i z r v p n are at again point agrees is word =
    let ivar = named_inside z.vars scope.slots i.0 index are at in
    let here = agrees.named i.0 index at ∙ is in
    let e : pos (n + 1) ≡ p i.0 +ℤ pos 1 = omega (arith, ints) in (
      assign_point z r i.0 (Arith Add (Var i.0) (Lit (pos 1))) p (pos (n + 1)) are.few ivar.0 ivar.1 (ivar, tt) again point e (word_fits (pos (n + 1)) word),
      agrees_assigned z.vars scope.slots v p index i.0 (pos (n + 1)) are at word agrees,
    )

-- words differ by no more than top's bounds
top_self : (j : ℕ) → top_bound j j ≡ pos 0
top_self j = grind arith

top_high : (i : ℕ) → i ≢ 0 → top_bound i 0 ≡ pos (2 ^ 63 - 1)
top_high i h = grind arith

top_low : (j : ℕ) → 0 ≢ j → top_bound 0 j ≡ pos (2 ^ 63)
top_low j h = grind arith

top_wide : (i j : ℕ) → i ≢ j → j ≢ 0 → i ≢ 0 → top_bound i j ≡ pos (2 ^ 64 - 1)
top_wide i j h k l = grind arith

pub under_top : (q : ℕ → ℤ) (i j : ℕ) → q 0 ≡ pos 0 → FitsSigned w64 (q i) → FitsSigned w64 (q j) → (q i -ℤ q j) ≤ℤ top_bound i j
under_top q i j origin fi fj = ⊎_elim
    (λ (same : i ≡ j). rw (same, top_self j) (omega (arith, ints)))
    (λ (apart : i ≢ j). ⊎_elim
    (λ (zero_j : j ≡ 0). let e : q j ≡ pos 0 = ap q zero_j ∙ origin in rw (zero_j, top_high i (λ k. apart (k ∙ sym zero_j))) (let g : (q i -ℤ q 0) ≤ℤ pos (2 ^ 63 - 1) = omega (arith, ints) in g))
    (λ (off_j : j ≢ 0). ⊎_elim
    (λ (zero_i : i ≡ 0). rw (zero_i, top_low j (λ k. off_j (sym k))) (let g : (q 0 -ℤ q j) ≤ℤ pos (2 ^ 63) = omega (arith, ints) in g))
    (λ (off_i : i ≢ 0). rw (top_wide i j apart off_j off_i) (omega (arith, ints)))
    (cases_eq i 0))
    (cases_eq j 0))
    (cases_eq i j)

-- a freed variable may have any word
pub freed_point : (z f : Zone) (x : ℕ) (p : ℕ → ℤ) (w : ℤ) → 1 ≤ x → IsFreed z f x → HasPoint z p → FitsSigned w64 w → HasPoint f (updated p x w)
freed_point z f x p w from freed point fits =
    let vars = freed.vars in
    let origin : updated p x w 0 ≡ pos 0 = updated_other p x 0 w (omega arith) ∙ point.zero in
    let words : (i : ℕ) → i ≤ f.vars → FitsSigned w64 (updated p x w i) = λ i hi. ⊎_elim
    (λ (same : i ≡ x). rw (same, updated_same p x w) fits)
    (λ (other : i ≢ x). rw (updated_other p x i w other) (point.words i (omega arith)))
    (cases_eq i x) in
    record {
      not_bottom = false_along z.bottom f.bottom (sym freed.bottom) point.not_bottom;
      zero = origin;
      words = words;
      bounds = λ i j hi hj. ⊎_elim
          (λ (at_i : i ≡ x). rw (freed.freed i j (omega arith) (omega arith) (inl at_i)) (under_top (updated p x w) i j origin (words i hi) (words j hj)))
          (λ (off_i : i ≢ x). ⊎_elim
          (λ (at_j : j ≡ x). rw (freed.freed i j (omega arith) (omega arith) (inr at_j)) (under_top (updated p x w) i j origin (words i hi) (words j hj)))
          (λ (off_j : j ≢ x). rw (freed.others i j (omega arith) (omega arith) off_i off_j, updated_other p x i w off_i, updated_other p x j w off_j) (point.bounds i j (omega arith) (omega arith)))
          (cases_eq j x))
          (cases_eq i x);
      marks = λ i variable hi marked. ⊎_elim
          (λ (at_i : i ≡ x). absurd (freed.unmarked (rw at_i at marked)))
          (λ (off_i : i ≢ x). rw (updated_other p x i w off_i) (point.marks i variable (omega arith) (true_along (mark_of f i) (mark_of z i) (freed.marks i off_i) marked)))
          (cases_eq i x);
    }

pub leave_point : (i slot : Slot) (z r : Zone) (p : ℕ → ℤ) (a b : ℤ) → IsVariable z.vars i → IsVariable z.vars slot → IsLeft i slot z r → HasPoint z p → p slot.0 ≤ℤ p i.0 → IsWord a → IsWord b →
    HasPoint r (updated (updated p i.0 a) slot.0 b)
leave_point i slot z r p a b hi hs left point order fa fb =
    let here = guard_point z left.last (at_most (Var slot.0) (Var i.0)) p hs hi left.guard point order in
    let f = left.forgotten here.not_bottom in
    let one = freed_point left.last f.half i.0 p a hi.0 f.index_freed here (word_fits a fa) in
    let two = freed_point f.half f.free slot.0 (updated p i.0 a) b hs.0 f.slot_freed one (word_fits b fb) in
    norm_point f.free r (updated (updated p i.0 a) slot.0 b) f.norm two

pub left_agrees : (scope : Scope) (vars : ℕ) (index : Name) (i slot : Slot) (v : Valuation) (p : ℕ → ℤ) (w b : ℤ) → AreSlots vars scope.slots → IsSlot scope index i → slice_get scope.slots slot.0 ≡ Some None →
    IsWord (v index) → Agrees scope.slots (assign v index w) p → Agrees scope.slots v (updated (updated p i.0 (v index)) slot.0 b)
left_agrees scope vars index i slot v p w b are at nameless word agrees =
    agrees_unnamed scope.slots v (updated p i.0 (v index)) slot.0 b nameless (agrees_back vars scope.slots v p index i.0 w are at word agrees)

-- the values of arguments, place by place
arg_values : (scope : Scope) (args : List Operand) (codes : List CodeOperand) (v : Valuation) (p : ℕ → ℤ) (k : ℕ) → ResolvesArgs scope args codes → Agrees scope.slots v p →
    value_at p (get_or (zone_args codes) k (Lit (pos 0))) ≡ get_or (map (value v) args) k (pos 0)
arg_values scope [] [] v p k res agrees = refl
arg_values scope [] (c ∷ codes) v p k res agrees = absurd res
arg_values scope (o ∷ args) [] v p k res agrees = absurd res
arg_values scope (o ∷ args) (c ∷ codes) v p zero res agrees = operand_value scope o c v p res.0 agrees
arg_values scope (o ∷ args) (c ∷ codes) v p (suc k) res agrees = arg_values scope args codes v p k res.1 agrees

args_inside : (vars : ℕ) (scope : Scope) (args : List Operand) (codes : List CodeOperand) (k : ℕ) → AreSlots vars scope.slots → ResolvesArgs scope args codes → IsOperand vars (get_or (zone_args codes) k (Lit (pos 0)))
args_inside vars scope [] [] k are res = tt
args_inside vars scope [] (c ∷ codes) k are res = absurd res
args_inside vars scope (o ∷ args) [] k are res = absurd res
args_inside vars scope (o ∷ args) (c ∷ codes) zero are res = operand_inside vars scope o c are res.0
args_inside vars scope (o ∷ args) (c ∷ codes) (suc k) are res = args_inside vars scope args codes k are res.1

further : {X : Type 0} (P : X → Type 0) (x : X) (xs : List X) → All P (x ∷ xs) → All P xs
further P x xs all = λ k d h. all (suc k) d (omega arith)

args_words : (z : Zone) (scope : Scope) (args : List Operand) (codes : List CodeOperand) (p : ℕ → ℤ) (k : ℕ) → HasPoint z p → AreSlots z.vars scope.slots → ResolvesArgs scope args codes → All IsWordOperand codes →
    FitsSigned w64 (value_at p (get_or (zone_args codes) k (Lit (pos 0))))
args_words z scope [] [] p k point are res words = omega (arith, ints)
args_words z scope [] (c ∷ codes) p k point are res words = absurd res
args_words z scope (o ∷ args) [] p k point are res words = absurd res
args_words z scope (o ∷ args) (c ∷ codes) p zero point are res words = word_fits _ (operand_word z c p point (operand_inside z.vars scope o c are res.0) (words 0 c (omega arith)))
args_words z scope (o ∷ args) (c ∷ codes) p (suc k) point are res words = args_words z scope args codes p k point are res.1 (further IsWordOperand c codes words)

by_argument : (P : ℕ → Type 0) → P 0 → ((k : ℕ) → P (suc k)) → (i : ℕ) → P i
by_argument P z s zero = z
by_argument P z s (suc k) = s k

-- a point is its values at the variables
pub same_point : (z : Zone) (p q : ℕ → ℤ) → ((i : ℕ) → i ≤ z.vars → q i ≡ p i) → HasPoint z p → HasPoint z q
same_point z p q same point = record {
  not_bottom = point.not_bottom;
  zero = same 0 (omega arith) ∙ point.zero;
  words = λ i hi. rw (same i hi) (point.words i hi);
  bounds = λ i j hi hj. rw (same i hi, same j hj) (point.bounds i j hi hj);
  marks = λ i from hi marked. rw (same i hi) (point.marks i from hi marked);
}

pub pass_point : (scope : Scope) (args : List Operand) (codes : List CodeOperand) (z r : Zone) (v : Valuation) (p : ℕ → ℤ) → AreSlots z.vars scope.slots → ResolvesArgs scope args codes → All IsWordOperand codes →
    IsArgsOf z (zone_args codes) r → HasPoint z p → Agrees scope.slots v p → HasPoint r (words_at (map (value v) args))
pass_point scope args codes z r v p are res words is point agrees =
    let operands : AreOperands z.vars (zone_args codes) = λ i hi. by_argument (λ i. IsOperand z.vars (argument_at (zone_args codes) i)) tt (λ k. args_inside z.vars scope args codes k are res) i in
    let fits : (i : ℕ) → i ≤ length (zone_args codes) → FitsSigned w64 (value_at p (argument_at (zone_args codes) i)) =
    λ i hi. by_argument (λ i. FitsSigned w64 (value_at p (argument_at (zone_args codes) i))) (omega (arith, ints)) (λ k. args_words z scope args codes p k point are res words) i in
    same_point r (λ i. value_at p (argument_at (zone_args codes) i)) (words_at (map (value v) args))
    (λ i hi. by_argument (λ i. words_at (map (value v) args) i ≡ value_at p (argument_at (zone_args codes) i)) refl (λ k. sym (arg_values scope args codes v p k res agrees)) i)
    (args_point z r (zone_args codes) p operands is point fits)
