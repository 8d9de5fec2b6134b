-- A state with one variable more tells the same of the others, so a value is given the same in both.
use Rattle.std.proofs.Common.{◌∙◌, ◌≡◌, ℕ, ◌+◌, ◌≤◌, ℤ, pos, ◌+ℤ◌, ◌-ℤ◌, ◌≤ℤ◌, ◌<ℤ◌, neg_ℤ, Bool, true, false, IsTrue, IsFalse, List, unsigned_abs, max, arith, rules, refl, sym, subst, ⊎_elim, inl, inr}
use Rattle.std.specs.Int.{int_min, int_max}
use Rattle.std.proofs.lemmas.Int.{ints}
use Rattle.vmv_zone.specs.declared.zone.Zone.{Zone}
use Rattle.vmv_zone.specs.declared.operand.ZoneOperand.{ZoneOperand}
use Rattle.vmv_zone.specs.declared.operand.ZoneOperand.TheVariants.{Lit, Var}
use Rattle.vmv_zone.specs.declared.operand.ZoneOp.{ZoneOp}
use Rattle.vmv_zone.specs.declared.operand.ZoneOp.TheVariants.{Add, Sub, Mul, Div, Rem}
use Rattle.vmv_zone.specs.declared.operand.ZoneValue.{ZoneValue}
use Rattle.vmv_zone.specs.declared.operand.ZoneValue.TheVariants.{Copy, Arith, Within}
use Rattle.vmv_zone.specs.Bounds.{bound_at, IsMarkedIn, IsClosed, ExcludesZero, IsTableBy, extended_bound}
use Rattle.vmv_zone.specs.Zone.{bound_of, mark_of, HasNormalBounds, IsNormOf}
use Rattle.vmv_zone.specs.Operand.{thing, dif, up, low, IsOperand, IsSpan, IsNonzero}
use Rattle.vmv_zone.specs.Ends.{IsEndProduct, IsEndQuotient}
use Rattle.vmv_zone.specs.Confine.{Confines, Extends}
use Rattle.vmv_zone.specs.Step.{IsAmong, Computed, Given, Drops, IsAssigned, IsOperandOf}
use Rattle.vmv_zone.proofs.Closing.{by_last, extended_from, extended_to, extended_old, extended_closed}
use Rattle.vmv_zone.proofs.Confining.{true_along, confines_as}
use Rattle.vmv_zone.proofs.Operands.{thing_inside}
use Rattle.vmv_zone.proofs.Words.{operand_more}
use Rattle.vmv_zone.proofs.Values.{assigned_of}

pub unmarked_same : (a b : Bool) → ¬ IsTrue a → ¬ IsTrue b → a ≡ b
unmarked_same true b h k = absurd (h (search rules))
unmarked_same false true h k = absurd (k (search rules))
unmarked_same false false h k = refl

extended_normal : (old new : Zone) → new.vars ≡ old.vars + 1 → new.marks ≡ old.marks → IsTableBy (λ i j b. b ≡ extended_bound old.bounds (old.vars + 1) i j) (old.vars + 1) new.bounds →
    HasNormalBounds old → HasNormalBounds new
extended_normal old new vars marks table normal =
    let last = old.vars + 1 in
    let kept : (i j : ℕ) → i ≤ old.vars → j ≤ old.vars → bound_at new.bounds i j ≡ bound_at old.bounds i j = λ i j hi hj. table.at i j (omega arith) (omega arith) ∙ extended_old old.bounds last i j (omega arith) (omega arith) in
    let old_mark : (i : ℕ) → IsMarkedIn new.marks i → IsMarkedIn old.marks i = λ i h. (let P : List Bool → Type 0 = λ l. IsMarkedIn l i in subst P marks h) in
    let closed : IsClosed (bound_at new.bounds) last = extended_closed old.bounds new.bounds last (omega arith) (let Q : ℕ → Type 0 = λ v. IsClosed (bound_at old.bounds) v in subst Q (omega arith) normal.tight.closed) table in
    let self = normal.tight.closed.self 0 (omega arith) in
    record {
      tight = record {
        closed = let P : ℕ → Type 0 = λ v. IsClosed (bound_at new.bounds) v in subst P (sym vars) closed;
        upper = λ i from hi marked zero_is. let was = old_mark i marked in let inside = (old.variables i was).1 in normal.tight.upper i from inside was (sym (kept i 0 inside (omega arith)) ∙ zero_is);
        lower = λ i from hi marked zero_is. let was = old_mark i marked in let inside = (old.variables i was).1 in normal.tight.lower i from inside was (sym (kept 0 i (omega arith) inside) ∙ zero_is);
      };
      marked = λ i from hi out. by_last last i (omega (arith, vars))
          (λ at.
          let above = table.at i 0 (omega arith) (omega arith) in
          let below = table.at 0 i (omega arith) (omega arith) in
          let a = extended_from old.bounds last i 0 at (omega arith) in
          let b = extended_to old.bounds last 0 i (omega arith) at in
          absurd (⊎_elim (λ (l : bound_at new.bounds i 0 <ℤ pos 0). omega (arith, ints)) (λ (l : bound_at new.bounds 0 i <ℤ pos 0). omega (arith, ints)) out))
          (λ before.
          let above = kept i 0 (omega arith) (omega arith) in
          let below = kept 0 i (omega arith) (omega arith) in
          let was : ExcludesZero old.bounds i = ⊎_elim (λ (l : bound_at new.bounds i 0 <ℤ pos 0). inl (omega (arith, ints))) (λ (l : bound_at new.bounds 0 i <ℤ pos 0). inr (omega (arith, ints))) out in
          let P : List Bool → Type 0 = λ l. IsMarkedIn l i in subst P (sym marks) (normal.marked i from (omega arith) was));
    }

pub extends_of : (old new : Zone) → new.vars ≡ old.vars + 1 → IsFalse old.bottom → new.marks ≡ old.marks →
    IsTableBy (λ i j b. b ≡ extended_bound old.bounds (old.vars + 1) i j) (old.vars + 1) new.bounds → Extends old new
extends_of old new vars up marks table = record {
  vars = vars;
  bounds = λ i j hi hj. table.at i j (omega arith) (omega arith) ∙ extended_old old.bounds (old.vars + 1) i j (omega arith) (omega arith);
  marks = λ i hi. rw marks refl;
  normal = λ h up'. extended_normal old new vars marks table (h up);
}

-- two states tell the same of so many variables
record Alike (vars : ℕ) (m m' : Zone) : Type 0 where
  pub bounds : (i j : ℕ) → i ≤ vars → j ≤ vars → bound_of m' i j ≡ bound_of m i j
  pub marks : (i : ℕ) → i ≤ vars → mark_of m' i ≡ mark_of m i

alike_back : (vars : ℕ) (m m' : Zone) → Alike vars m m' → Alike vars m' m
alike_back vars m m' alike = record { bounds = λ i j hi hj. sym (alike.bounds i j hi hj); marks = λ i hi. sym (alike.marks i hi) }

dif_alike : (vars : ℕ) (m m' : Zone) (x y : ZoneOperand) → Alike vars m m' → IsOperand vars x → IsOperand vars y → dif m' x y ≡ dif m x y
dif_alike vars m m' x y alike hx hy = let e = alike.bounds (thing x) (thing y) (thing_inside vars x hx) (thing_inside vars y hy) in omega (arith, ints)

low_alike : (vars : ℕ) (m m' : Zone) (x : ZoneOperand) → Alike vars m m' → IsOperand vars x → low m' x ≡ low m x
low_alike vars m m' x alike hx = let e = dif_alike vars m m' (Lit (pos 0)) x alike tt hx in omega (arith, ints)

up_alike : (vars : ℕ) (m m' : Zone) (x : ZoneOperand) → Alike vars m m' → IsOperand vars x → up m' x ≡ up m x
up_alike vars m m' x alike hx = let e = dif_alike vars m m' x (Lit (pos 0)) alike hx tt in omega (arith, ints)

nonzero_alike : (vars : ℕ) (m m' : Zone) (x : ZoneOperand) → Alike vars m m' → IsOperand vars x → IsNonzero m' x → IsNonzero m x
nonzero_alike vars m m' (Lit c) alike hx h = h
nonzero_alike vars m m' (Var y) alike hx h = true_along (mark_of m' y) (mark_of m y) (alike.marks y hx.1) h

along : (P : ℤ → ℤ → ℤ → ℤ → Type 0) (a b c d : ℤ) {a' b' c' d' : ℤ} → a ≡ a' → b ≡ b' → c ≡ c' → d ≡ d' → P a b c d → P a' b' c' d'
along P a b c d ea eb ec ed h = rw (sym ea, sym eb, sym ec, sym ed) h

computed_alike : (op : ZoneOp) (vars : ℕ) (m m' n : Zone) (t x y : ZoneOperand) → Alike vars m m' → IsOperand vars x → IsOperand vars y →
    Computed op m' n t x y → Computed op m n t x y
computed_alike Add vars m m' n t x y alike hx hy h =
    let xl = low_alike vars m m' x alike hx in let xh = up_alike vars m m' x alike hx in
    let yl = low_alike vars m m' y alike hy in let yh = up_alike vars m m' y alike hy in
    record {
      whole = along (λ a b c d. IsSpan n t (Lit (pos 0)) (a +ℤ c) (b +ℤ d)) _ _ _ _ xl xh yl yh h.whole;
      left = along (λ a b c d. IsSpan n t x c d) _ _ _ _ xl xh yl yh h.left;
      right = along (λ a b c d. IsSpan n t y a b) _ _ _ _ xl xh yl yh h.right;
    }
computed_alike Sub vars m m' n t x y alike hx hy h =
    let xy = dif_alike vars m m' x y alike hx hy in let yx = dif_alike vars m m' y x alike hy hx in
    let yl = low_alike vars m m' y alike hy in let yh = up_alike vars m m' y alike hy in
    record {
      whole = along (λ a b c d. IsSpan n t (Lit (pos 0)) (neg_ℤ a) b) _ _ _ _ yx xy yl yh h.whole;
      left = along (λ a b c d. IsSpan n t x (neg_ℤ d) (neg_ℤ c)) _ _ _ _ yx xy yl yh h.left;
    }
computed_alike Mul vars m m' n t x y alike hx hy h =
    let xl = low_alike vars m m' x alike hx in let xh = up_alike vars m m' x alike hx in
    let yl = low_alike vars m m' y alike hy in let yh = up_alike vars m m' y alike hy in
    let back = alike_back vars m m' alike in
    record {
      whole = along (λ a b c d. IsAmong n t (IsEndProduct a b c d)) _ _ _ _ xl xh yl yh h.whole;
      marked = λ k k'. h.marked (nonzero_alike vars m' m x back hx k) (nonzero_alike vars m' m y back hy k');
    }
computed_alike Div vars m m' n t x y alike hx hy h =
    let xl = low_alike vars m m' x alike hx in let xh = up_alike vars m m' x alike hx in
    let yl = low_alike vars m m' y alike hy in let yh = up_alike vars m m' y alike hy in
    record {
      divisor = h.divisor;
      whole = along (λ a b c d. IsAmong n t (IsEndQuotient a b c d)) _ _ _ _ xl xh yl yh h.whole;
    }
computed_alike Rem vars m m' n t x y alike hx hy h =
    let xl = low_alike vars m m' x alike hx in let xh = up_alike vars m m' x alike hx in
    let yl = low_alike vars m m' y alike hy in let yh = up_alike vars m m' y alike hy in
    record {
      divisor = h.divisor;
      least = along (λ a b c d. int_max (int_min a (pos 0)) (pos 1 -ℤ pos (max (unsigned_abs c) (unsigned_abs d))) ≤ℤ low n t) _ _ _ _ xl xh yl yh h.least;
      greatest = along (λ a b c d. up n t ≤ℤ int_min (int_max b (pos 0)) (pos (max (unsigned_abs c) (unsigned_abs d)) -ℤ pos 1)) _ _ _ _ xl xh yl yh h.greatest;
    }

given_alike : (value : ZoneValue) (vars : ℕ) (m m' n : Zone) (t : ZoneOperand) → Alike vars m m' → IsOperandOf value vars → Given value m' n t → Given value m n t
given_alike (Copy x) vars m m' n t alike hx h = record { same = h.same; marked = λ k. h.marked (nonzero_alike vars m' m x (alike_back vars m m' alike) hx k) }
given_alike (Arith op x y) vars m m' n t alike hs h = computed_alike op vars m m' n t x y alike hs.0 hs.1 h
given_alike (Within c) vars m m' n t alike hs h = h

pub operands_more : (value : ZoneValue) (v w : ℕ) → v ≤ w → IsOperandOf value v → IsOperandOf value w
operands_more (Copy x) v w more is = operand_more v w x more is
operands_more (Arith op x y) v w more is = (operand_more v w x more is.0, operand_more v w y more is.1)
operands_more (Within c) v w more is = tt

-- an assignment whose value is read in the state with the fresh variable
pub stored_of : (z before ext given e r : Zone) (to : ℕ) (value : ZoneValue) → IsNormOf z before → IsOperandOf value before.vars → Confines (before.vars + 1) (λ n. Unit {0}) before ext →
    Extends before ext → Confines ext.vars (λ n. Given value ext n (Var ext.vars)) ext given → IsNormOf given e → Drops to e r → IsAssigned z to value r
stored_of z before ext given e r to value norm inside confines extends gives norm' drops =
    let alike : Alike before.vars before ext = record { bounds = extends.bounds; marks = extends.marks } in
    let gives' : Confines ext.vars (λ n. Given value ext n (Var (before.vars + 1))) ext given = (let P : ℕ → Type 0 = λ v. Confines ext.vars (λ n. Given value ext n (Var v)) ext given in subst P extends.vars gives) in
    assigned_of z before ext given e r to value norm confines
    (confines_as (λ n same proper. (
      (λ h. given_alike value before.vars before ext n (Var (before.vars + 1)) alike inside h),
      (λ h. given_alike value before.vars ext before n (Var (before.vars + 1)) (alike_back before.vars before ext alike) inside h),
    )) gives')
    norm' drops
