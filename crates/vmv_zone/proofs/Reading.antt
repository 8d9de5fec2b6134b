-- The values of an operand that a state allows.
use Rattle.std.proofs.Common.{◌∙◌, ◌≡◌, ◌↔◌, ℤ, ◌<ℤ◌, Bool, IsTrue, IsFalse, arith, rules, sym}
use Rattle.std.proofs.lemmas.Int.{ints}
use Rattle.vmv_cond.specs.declared.cond.Cond.{Cond}
use Rattle.vmv_cond.specs.Cond.{Holds}
use Rattle.vmv_cond.specs.Normal.{InRange}
use Rattle.vmv_zone.specs.declared.zone.Zone.{Zone}
use Rattle.vmv_zone.specs.declared.operand.ZoneOperand.{ZoneOperand}
use Rattle.vmv_zone.specs.Zone.{IsNormOf}
use Rattle.vmv_zone.specs.Operand.{up, low, IsNonzero}
use Rattle.vmv_zone.specs.Read.{IsValueOf, IsRangeOf}

value_iff : (m : Zone) (x : ZoneOperand) (w lo hi : ℤ) (marked : Bool) → IsFalse m.bottom → lo ≡ low m x → hi ≡ up m x → IsTrue marked ↔ IsNonzero m x →
    InRange lo hi marked w ↔ IsValueOf m x w
value_iff m x w lo hi marked up' el eh iff = (
  (λ h. record { not_bottom = up'; above = rw (sym el) h.above; below = rw (sym eh) h.below; nonzero = λ k. h.nonzero (iff.1 k) }),
  (λ h. record { above = rw el h.above; below = rw eh h.below; nonzero = λ k. h.nonzero (iff.0 k) }),
)

pub range_of : (z m : Zone) (x : ZoneOperand) (c : Cond) (lo hi lo' hi' : ℤ) (marked : Bool) → IsNormOf z m → IsFalse m.bottom →
    ((w : ℤ) → Holds c w ↔ InRange lo' hi' marked w) → lo ≡ low m x → hi ≡ up m x → IsTrue marked ↔ IsNonzero m x → lo' ≡ lo → hi' ≡ hi → IsRangeOf z x c
range_of z m x c lo hi lo' hi' marked norm up' held el eh iff el' eh' = record {
  before = m;
  norm = norm;
  words = λ w. let one = held w in let two = value_iff m x w lo' hi' marked up' (el' ∙ el) (eh' ∙ eh) iff in ((λ h. two.0 (one.0 h)), (λ h. one.1 (two.1 h)));
}

pub no_range : (z m : Zone) (x : ZoneOperand) (c : Cond) (lo hi : ℤ) (marked : Bool) → IsNormOf z m → IsTrue m.bottom →
    ((w : ℤ) → Holds c w ↔ InRange lo hi marked w) → hi <ℤ lo → IsRangeOf z x c
no_range z m x c lo hi marked norm none held empty = record {
  before = m;
  norm = norm;
  words = λ w. let one = held w in
      ((λ h. absurd (let r = one.0 h in let a = r.above in let b = r.below in omega (arith, ints))), (λ h. absurd (let f = h.not_bottom in search rules)));
}
