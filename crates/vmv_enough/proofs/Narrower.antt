-- Demands that narrow a condition.
use Rattle.std.proofs.Common.{◌≡◌, ◌↔◌, Bool, true, false, not, IsTrue, refl, sym, ap, subst, ◌∙◌}
use Rattle.std.specs.Bool.{beq}
use Rattle.vmv_cond.specs.declared.cond.Cond.{Cond}
use Rattle.vmv_cond.specs.Cond.{IsEmpty, IsMeet}
use Rattle.vmv_cond.proofs.Same.{same_words, same_fields}
use Rattle.vmv_enough.specs.OpenBy.{Narrows}

pub same_meet : (a b c d : Cond) → IsMeet a b c → IsMeet a b d → c ≡ d
same_meet a b c d h g = same_words c d (λ w p. (g w).1 ((h w).0 p)) (λ w p. (h w).1 ((g w).0 p))

pub not_narrower : (had wanted met : Cond) → IsMeet had wanted met → IsEmpty met → IsTrue false ↔ Narrows had wanted
not_narrower had wanted met meet empty = (
  (λ t. absurd (cc)),
  (λ (other, narrows). absurd (narrows.nonempty (subst IsEmpty (same_meet had wanted met other meet narrows.meet) empty))),
)

pub narrower_if : (had wanted met : Cond) (same : Bool) → IsMeet had wanted met → ¬ IsEmpty met → IsTrue same ↔ (met ≡ had) → IsTrue (not same) ↔ Narrows had wanted
narrower_if had wanted met true meet some is = (
  (λ t. absurd (cc)),
  (λ (other, narrows). absurd (narrows.other (sym (same_meet had wanted met other meet narrows.meet) ∙ is.0 refl))),
)
narrower_if had wanted met false meet some is = (
  (λ t. (met, record { meet = meet; nonempty = some; other = λ e. let f = is.1 e in absurd (cc) })),
  (λ n. refl),
)

bool_same : (a b : Bool) → IsTrue (beq a b) ↔ (a ≡ b)
bool_same true true = ((λ t. refl), (λ e. refl))
bool_same true false = ((λ t. absurd (cc)), (λ e. absurd (cc)))
bool_same false true = ((λ t. absurd (cc)), (λ e. absurd (cc)))
bool_same false false = ((λ t. refl), (λ e. refl))

pub same_if : (c d : Cond) (a b : Bool) → c.lo ≡ d.lo → c.hi ≡ d.hi → a ≡ c.zero_out → b ≡ d.zero_out → IsTrue (beq a b) ↔ (c ≡ d)
same_if c d a b low high e f = (
  (λ t. same_fields c d low high (sym e ∙ ((bool_same a b).0 t ∙ f))),
  (λ same. (bool_same a b).1 (e ∙ (ap (λ (x : Cond). x.zero_out) same ∙ sym f))),
)
