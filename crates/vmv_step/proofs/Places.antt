-- Slots and their names, valuations and the words of slots.
use Rattle.std.proofs.Common.{◌∙◌, ◌≡◌, ◌≢◌, ◌⊎◌, inl, inr, ⊎_elim, ℕ, zero, suc, ◌≤◌, ◌<◌, ℤ, Bool, true, false, if◌then◌else◌, Option, Some, None, List, [], ◌∷◌, length, slice_get, arith, refl, sym, subst}
use Rattle.std.specs.Str.{bytes_eq}
use Rattle.std.proofs.lemmas.Slice.Eq.{bytes_eq-Decides}
use Rattle.std.proofs.lemmas.Bool.{cases_eq}
use Rattle.vmv_tree.specs.declared.name.Name.{Name}
use Rattle.vmv_tree.specs.declared.tree.Operand.{Operand}
use Rattle.vmv_tree.specs.declared.tree.Operand.TheVariants.{Lit, Var}
use Rattle.vmv_tree.specs.Words.{IsWord}
use Rattle.vmv_tree.specs.Run.{Valuation, value, assign}
use Rattle.vmv_snapshot.specs.declared.code.CodeOperand.{CodeOperand}
use Rattle.vmv_snapshot.specs.declared.code.CodeOperand.TheVariants.{Lit, Var}
use Rattle.vmv_snapshot.specs.Resolves.{Scope, ResolvesOperand}
use Rattle.vmv_zone.specs.declared.zone.Zone.{Zone}
use Rattle.vmv_zone.specs.Zone.{HasPoint}
use Rattle.vmv_zone.specs.Operand.{value_at}
use Rattle.vmv_zone.specs.Points.{updated}
use Rattle.vmv_step.specs.Zones.{zone_operand, IsInside}
use Rattle.vmv_step.specs.Agree.{AreSlots, Agrees, IsSameUnnamed, IsWordOperand}
use Rattle.vmv_step.proofs.Result.{fits_word}

pub within : {X : Type 0} (xs : List X) (n : ℕ) (x : X) → slice_get xs n ≡ Some x → n < length xs
within [] n x e = absurd (cc)
within (y ∷ xs) zero x e = omega arith
within (y ∷ xs) (suc n) x e = let h = within xs n x e in omega arith

-- a slot but for slot 0 is a variable
off_origin : {X : Type 0} (slots : List (Option X)) (n : ℕ) (x : X) → slice_get slots 0 ≡ Some None → slice_get slots n ≡ Some (Some x) → 1 ≤ n
off_origin slots zero x origin e = absurd (cc)
off_origin slots (suc n) x origin e = omega arith

pub named_inside : (vars : ℕ) (slots : List (Option Name)) (n : ℕ) (x : Name) → AreSlots vars slots → slice_get slots n ≡ Some (Some x) → (1 ≤ n) × (n ≤ vars)
named_inside vars slots n x are e =
    let h = within slots n (Some x) e in
    let c = are.count in
    (off_origin slots n x are.origin e, omega arith)

pub operand_inside : (vars : ℕ) (scope : Scope) (o : Operand) (c : CodeOperand) → AreSlots vars scope.slots → ResolvesOperand scope o c → IsInside vars c
operand_inside vars scope (Lit w) (Lit u) are r = tt
operand_inside vars scope (Lit w) (Var n) are r = absurd r
operand_inside vars scope (Var x) (Lit u) are r = absurd r
operand_inside vars scope (Var x) (Var n) are r = named_inside vars scope.slots n.0 x are r

pub operand_value : (scope : Scope) (o : Operand) (c : CodeOperand) (v : Valuation) (p : ℕ → ℤ) → ResolvesOperand scope o c → Agrees scope.slots v p → value_at p (zone_operand c) ≡ value v o
operand_value scope (Lit w) (Lit u) v p r agrees = r.0
operand_value scope (Lit w) (Var n) v p r agrees = absurd r
operand_value scope (Var x) (Lit u) v p r agrees = absurd r
operand_value scope (Var x) (Var n) v p r agrees = agrees.named n.0 x r

-- the value of an operand at a point is a word
pub operand_word : (z : Zone) (c : CodeOperand) (p : ℕ → ℤ) → HasPoint z p → IsInside z.vars c → IsWordOperand c → IsWord (value_at p (zone_operand c))
operand_word z (Lit w) p point inside word = word
operand_word z (Var n) p point inside word = fits_word (p n.0) (point.words n.0 inside.1)

picked : (b : Bool) (w u : ℤ) → b ≡ true → (if b then w else u) ≡ w
picked true w u h = refl
picked false w u h = absurd (cc)

passed_over : (b : Bool) (w u : ℤ) → (b ≡ true → ⊥) → (if b then w else u) ≡ u
passed_over true w u h = absurd (h refl)
passed_over false w u h = refl

pub assigned_same : (v : Valuation) (x : Name) (w : ℤ) → assign v x w x ≡ w
assigned_same v x w = picked (bytes_eq x x) w (v x) ((bytes_eq-Decides x x).1 refl)

pub assigned_other : (v : Valuation) (x y : Name) (w : ℤ) → y ≢ x → assign v x w y ≡ v y
assigned_other v x y w apart = passed_over (bytes_eq y x) w (v y) (λ t. apart ((bytes_eq-Decides y x).0 t))

test_of : (b : Bool) → (b ≡ true) ⊎ (b ≡ true → ⊥)
test_of true = inl refl
test_of false = inr (λ h. absurd (cc))

pub same_name : (x y : Name) → (x ≡ y) ⊎ (x ≢ y)
same_name x y = ⊎_elim (λ t. inl ((bytes_eq-Decides x y).0 t)) (λ n. inr (λ e. n ((bytes_eq-Decides x y).1 e))) (test_of (bytes_eq x y))

by_test : (b : Bool) (w u : ℤ) → IsWord w → IsWord u → IsWord (if b then w else u)
by_test true w u h k = h
by_test false w u h k = k

pub assigned_word : (v : Valuation) (x y : Name) (w : ℤ) → IsWord w → IsWord (v y) → IsWord (assign v x w y)
assigned_word v x y w h k = by_test (bytes_eq y x) w (v y) h k

pub updated_same : (p : ℕ → ℤ) (n : ℕ) (w : ℤ) → updated p n w n ≡ w
updated_same p n w = grind arith

pub updated_other : (p : ℕ → ℤ) (n m : ℕ) (w : ℤ) → m ≢ n → updated p n w m ≡ p m
updated_other p n m w h = grind arith

one_name : {X : Type 0} (slots : List (Option X)) (m n : ℕ) (x y : X) → m ≡ n → slice_get slots n ≡ Some (Some x) → slice_get slots m ≡ Some (Some y) → y ≡ x
one_name slots m n x y same e e' = let e'' : slice_get slots n ≡ Some (Some y) = rw same at e' in cc

-- a word assigned to a name agrees with the same word in its slot
pub agrees_assigned : (vars : ℕ) (slots : List (Option Name)) (v : Valuation) (p : ℕ → ℤ) (x : Name) (n : ℕ) (w : ℤ) → AreSlots vars slots → slice_get slots n ≡ Some (Some x) → IsWord w →
    Agrees slots v p → Agrees slots (assign v x w) (updated p n w)
agrees_assigned vars slots v p x n w are at word agrees = record {
  named = λ m y e. ⊎_elim
      (λ (same : m ≡ n). rw (same, one_name slots m n x y same at e, updated_same p n w, assigned_same v x w) refl)
      (λ (other : m ≢ n). updated_other p n m w other ∙ agrees.named m y e ∙ sym (assigned_other v x y w (λ is. other (are.once m n x (rw is at e) at))))
      (cases_eq m n);
  words = λ y. assigned_word v x y w word (agrees.words y);
}

-- any word in a slot without a name agrees
pub agrees_unnamed : (slots : List (Option Name)) (v : Valuation) (p : ℕ → ℤ) (n : ℕ) (w : ℤ) → slice_get slots n ≡ Some None → Agrees slots v p → Agrees slots v (updated p n w)
agrees_unnamed slots v p n w at agrees = record {
  named = λ m y e. updated_other p n m w (λ (same : m ≡ n). let e' : slice_get slots n ≡ Some (Some y) = rw same at e in absurd (cc)) ∙ agrees.named m y e;
  words = agrees.words;
}

pub unnamed_assigned : (slots : List (Option Name)) (p : ℕ → ℤ) (x : Name) (n : ℕ) (w : ℤ) → slice_get slots n ≡ Some (Some x) → IsSameUnnamed slots p (updated p n w)
unnamed_assigned slots p x n w at m e = updated_other p n m w (λ (same : m ≡ n). let e' : slice_get slots n ≡ Some None = rw same at e in absurd (cc))

-- a valuation agrees where its own word stands for one that was assigned
pub agrees_back : (vars : ℕ) (slots : List (Option Name)) (v : Valuation) (p : ℕ → ℤ) (x : Name) (n : ℕ) (w : ℤ) → AreSlots vars slots → slice_get slots n ≡ Some (Some x) → IsWord (v x) →
    Agrees slots (assign v x w) p → Agrees slots v (updated p n (v x))
agrees_back vars slots v p x n w are at word agrees = record {
  named = λ m y e. ⊎_elim
      (λ (same : m ≡ n). rw (same, one_name slots m n x y same at e, updated_same p n (v x)) refl)
      (λ (other : m ≢ n). updated_other p n m (v x) other ∙ agrees.named m y e ∙ assigned_other v x y w (λ is. other (are.once m n x (rw is at e) at)))
      (cases_eq m n);
  words = λ y. ⊎_elim (λ (is : y ≡ x). rw is word) (λ (other : y ≢ x). subst IsWord (assigned_other v x y w other) (agrees.words y)) (same_name y x);
}
