-- Conditions that hold the same words, and what is above a range.
use Rattle.std.proofs.Common.{◌≡◌, ◌↔◌, Bool, IsTrue, sym, subst}
use Rattle.vmv_cond.specs.declared.cond.Cond.{Cond}
use Rattle.vmv_cond.specs.Cond.{Holds, IsSubset, IsMeet}
use Rattle.vmv_cond.specs.Normal.{InRange}
use Rattle.vmv_cond.proofs.Same.{same_words}

moved : (a b : Cond) → a.lo ≡ b.lo → a.hi ≡ b.hi → a.zero_out ≡ b.zero_out → IsSubset a b
moved a b lo hi mark w h = subst (λ x. InRange b.lo b.hi x w) mark (subst (λ x. InRange b.lo x a.zero_out w) hi (subst (λ x. InRange x a.hi a.zero_out w) lo h))

pub same_cond : (a b : Cond) → a.lo ≡ b.lo → a.hi ≡ b.hi → a.zero_out ≡ b.zero_out → a ≡ b
same_cond a b lo hi mark = same_words a b (moved a b lo hi mark) (moved b a (sym lo) (sym hi) (sym mark))

pub above_told : (t : Bool) (cond range m : Cond) → IsMeet cond range m → IsTrue t ↔ (m ≡ range) → IsTrue t ↔ IsSubset range cond
above_told t cond range m meet iff = (
  λ h w held. ((meet w).0 (subst (λ (c : Cond). Holds c w) (sym (iff.0 h)) held)).0,
  λ sub. iff.1 (same_words m range (λ w h. ((meet w).0 h).1) (λ w h. (meet w).1 (sub w h, h))),
)
