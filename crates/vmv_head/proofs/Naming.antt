-- Names that are the same but for the case of letters.
use Rattle.std.proofs.Common.{◌≡◌, ℕ, Bool, true, false, List, [], ◌∷◌, refl, sym, subst, ◌∙◌}
use Rattle.std.specs.Prelude.{nat_eq, ◌↔◌, IsTrue}
use Rattle.std.specs.Cmp.Lexicographic.{pointwise, same_text}
use Rattle.std.proofs.lemmas.Bool.{eq-eqb}

same_self : (x : List ℕ) → pointwise nat_eq x x ≡ true
same_self [] = refl
same_self (b ∷ x) = let e = eq-eqb b b refl in rw e (same_self x)

told_by : (r s : Bool) (x y : List ℕ) → pointwise nat_eq x y ≡ s → (IsTrue r → x ≡ y) → (x ≡ y → IsTrue r) → r ≡ s
told_by true true x y e f g = refl
told_by false false x y e f g = refl
told_by true false x y e f g =
    let P : List ℕ → Type 0 = λ z. pointwise nat_eq x z ≡ true in
    sym (subst P (f refl) (same_self x)) ∙ e
told_by false true x y e f g = g (same_text x y (sym e))

-- a test of two texts is the test of their bytes in turn
pub told_same : (r : Bool) (x y : List ℕ) → (IsTrue r ↔ (x ≡ y)) → r ≡ pointwise nat_eq x y
told_same r x y h = told_by r (pointwise nat_eq x y) x y refl h.0 h.1
