-- Bounds on the differences of operands.
use Rattle.std.proofs.Common.{◌≡◌, ◌↔◌, ℕ, ◌≤◌, ℤ, ◌+ℤ◌, ◌-ℤ◌, ◌≤ℤ◌, neg_ℤ, arith}
use Rattle.std.proofs.lemmas.Int.{ints}
use Rattle.vmv_zone.specs.declared.zone.Zone.{Zone}
use Rattle.vmv_zone.specs.declared.operand.ZoneOperand.{ZoneOperand}
use Rattle.vmv_zone.specs.declared.operand.ZoneOperand.TheVariants.{Lit, Var}
use Rattle.vmv_zone.specs.Zone.{bound_of}
use Rattle.vmv_zone.specs.Operand.{thing, shift, dif, IsOperand, IsSpan}
use Rattle.vmv_zone.specs.Confine.{Confines}
use Rattle.vmv_zone.proofs.Confining.{confines_as, confines_next}

pub at_most_iff : (n : Zone) (l r : ZoneOperand) (i j : ℕ) (b most s t : ℤ) → i ≡ thing l → j ≡ thing r → s ≡ shift l → t ≡ shift r → b ≡ (most -ℤ s) +ℤ t →
    (bound_of n i j ≤ℤ b) ↔ (dif n l r ≤ℤ most)
at_most_iff n l r i j b most s t ei ej es et eb = rw (ei, ej) ((λ h. omega (arith, ints)), (λ h. omega (arith, ints)))

pub difference_is : (z : Zone) (l r : ZoneOperand) (i j : ℕ) (b s t d : ℤ) → i ≡ thing l → j ≡ thing r → b ≡ bound_of z i j → s ≡ shift l → t ≡ shift r → d ≡ (b +ℤ s) -ℤ t → d ≡ dif z l r
difference_is z l r i j b s t d ei ej eb es et ed = let eb' = rw (ei, ej) at eb in omega (arith, ints)

pub span_iff : (n : Zone) (l r : ZoneOperand) (lo hi lo' hi' : ℤ) → lo' ≡ neg_ℤ lo → hi' ≡ hi → ((dif n l r ≤ℤ hi') × (dif n r l ≤ℤ lo')) ↔ IsSpan n l r lo hi
span_iff n l r lo hi lo' hi' e e' = ((λ h. record { high = rw e' at h.0; low = rw e at h.1 }), (λ h. (rw e' h.high, rw e h.low)))

pub confines_span : {count : ℕ} {a b d : Zone} (l r : ZoneOperand) (lo hi lo' hi' : ℤ) → lo' ≡ neg_ℤ lo → hi' ≡ hi →
    Confines count (λ n. dif n l r ≤ℤ hi') a b → Confines b.vars (λ n. dif n r l ≤ℤ lo') b d → Confines count (λ n. IsSpan n l r lo hi) a d
confines_span l r lo hi lo' hi' e e' one two = confines_as (λ n same proper. span_iff n l r lo hi lo' hi' e e') (confines_next one two)

-- the same span in other terms
pub confines_same : {count : ℕ} {a b : Zone} (l r : ZoneOperand) (lo hi lo' hi' : ℤ) → Confines count (λ n. IsSpan n l r lo' hi') a b → lo' ≡ lo → hi' ≡ hi →
    Confines count (λ n. IsSpan n l r lo hi) a b
confines_same l r lo hi lo' hi' one e e' = confines_as (λ n same proper. rw (e, e') ((λ h. h), (λ h. h))) one

pub thing_inside : (vars : ℕ) (o : ZoneOperand) → IsOperand vars o → thing o ≤ vars
thing_inside vars (Lit c) h = omega arith
thing_inside vars (Var y) h = h.1
