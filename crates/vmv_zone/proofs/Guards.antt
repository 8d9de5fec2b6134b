-- What tests add to a state.
use Rattle.std.proofs.Common.{◌≡◌, ◌↔◌, ℕ, pos, negsuc, ◌≤ℤ◌, Bool, IsTrue, subst}
use Rattle.vmv_zone.specs.declared.zone.Zone.{Zone}
use Rattle.vmv_zone.specs.declared.operand.ZoneOperand.{ZoneOperand}
use Rattle.vmv_zone.specs.declared.operand.ZoneTest.{ZoneTest}
use Rattle.vmv_zone.specs.Zone.{IsNormOf, IsGreatest}
use Rattle.vmv_zone.specs.Operand.{dif, IsNonzero, IsZero}
use Rattle.vmv_zone.specs.Confine.{Confines}
use Rattle.vmv_zone.specs.Step.{Tested, IsApart, IsGuarded}
use Rattle.vmv_zone.proofs.Confining.{confines_as, confines_next, greatest_of}

pub apart_iff : (m n : Zone) (l r : ZoneOperand) (a b x y : Bool) → IsTrue a ↔ (dif m l r ≡ pos 0) → IsTrue b ↔ (dif m r l ≡ pos 0) → IsTrue x ↔ IsZero r → IsTrue y ↔ IsZero l →
    ((((IsTrue a → dif n l r ≤ℤ negsuc 0) × (IsTrue b → dif n r l ≤ℤ negsuc 0)) × (IsTrue x → IsNonzero n l)) × (IsTrue y → IsNonzero n r)) ↔ IsApart m n l r
apart_iff m n l r a b x y ea eb ex ey = (
  (λ h. record { above = λ e. h.0.0.0 (ea.1 e); below = λ e. h.0.0.1 (eb.1 e); left = λ e. h.0.1 (ex.1 e); right = λ e. h.1 (ey.1 e) }),
  (λ h. ((((λ t. h.above (ea.0 t)), (λ t. h.below (eb.0 t))), (λ t. h.left (ex.0 t))), (λ t. h.right (ey.0 t)))),
)

pub confines_apart : {a b d e : Zone} (m : Zone) (l r : ZoneOperand) (s t x y : Bool) →
    IsTrue s ↔ (dif m l r ≡ pos 0) → IsTrue t ↔ (dif m r l ≡ pos 0) → IsTrue x ↔ IsZero r → IsTrue y ↔ IsZero l →
    Confines m.vars (λ n. IsTrue s → dif n l r ≤ℤ negsuc 0) m a → Confines a.vars (λ n. IsTrue t → dif n r l ≤ℤ negsuc 0) a b →
    Confines b.vars (λ n. IsTrue x → IsNonzero n l) b d → Confines d.vars (λ n. IsTrue y → IsNonzero n r) d e → Confines m.vars (λ n. IsApart m n l r) m e
confines_apart m l r s t x y es et ex ey one two three four =
    confines_as (λ n same proper. apart_iff m n l r s t x y es et ex ey) (confines_next (confines_next (confines_next one two) three) four)

pub guarded_of : (z before added g : Zone) (test : ZoneTest) → IsNormOf z before →
    Confines before.vars (λ n. Tested test.rel before n test.left test.right) before added → IsNormOf added g → IsGuarded z test g
guarded_of z before added g test norm confines norm' = record {
  before = before;
  norm = norm;
  greatest = let F : ℕ → Type 0 = λ k. IsGreatest k before (λ n. Tested test.rel before n test.left test.right) g in
      subst F norm.vars (greatest_of before.vars (λ n. Tested test.rel before n test.left test.right) before added g confines norm');
}
