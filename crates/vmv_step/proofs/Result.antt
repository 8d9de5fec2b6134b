-- What an operation gives, and where it gives no word.
use Rattle.std.proofs.Common.{◌≡◌, ◌≢◌, ◌⊎◌, inl, inr, ⊎_elim, ◌^◌, ◌-◌, ℤ, pos, negsuc, ◌+ℤ◌, ◌-ℤ◌, ◌*ℤ◌, Bool, true, false, Option, Some, None, FitsSigned, if◌then◌else◌, arith, refl, sym, subst}
use Rattle.std.specs.Prelude.{int_div, int_rem, int_lt}
use Rattle.std.specs.Ordering.{int_eq}
use Rattle.std.specs.Int.{w64}
use Rattle.std.specs.Int.Signed.{mag_rem}
use Rattle.std.proofs.lemmas.Int.{ints}
use Rattle.vmv_tree.specs.declared.tree.Op.{Op}
use Rattle.vmv_tree.specs.declared.tree.Op.TheVariants.{Add, Sub, Mul, Div, Rem}
use Rattle.vmv_tree.specs.declared.tree.Rel.{Rel}
use Rattle.vmv_tree.specs.declared.tree.Rel.TheVariants.{Equal, Unequal, Less, AtMost, Greater, AtLeast}
use Rattle.vmv_tree.specs.Words.{is_word, IsWord, only_word, result_of, compare}
use Rattle.vmv_zone.specs.Rel.{Meets}
use Rattle.vmv_zone.specs.Points.{Results}
use Rattle.vmv_step.specs.Zones.{zone_op, zone_rel, negated_rel}
use Rattle.vmv_step.specs.Fails.{LeavesWords}
use Rattle.vmv_step.proofs.Quotient.{edge_quotient}

pub word_fits : (z : ℤ) → IsWord z → FitsSigned w64 z
word_fits z h = grind (arith, ints)

pub fits_word : (z : ℤ) → FitsSigned w64 z → IsWord z
fits_word z h = grind (arith, ints)

-- a number that is no word leaves the words
by_order : (z : ℤ) (b : Bool) → int_lt z (negsuc (2 ^ 63 - 1)) ≡ b → (FitsSigned w64 z → ⊥) → LeavesWords z z
by_order z true t none = inl (grind (arith, ints))
by_order z false t none = inr (grind (arith, ints))

pub leaves : (z : ℤ) → (IsWord z → ⊥) → LeavesWords z z
leaves z none = by_order z (int_lt z (negsuc (2 ^ 63 - 1))) refl (λ h. none (fits_word z h))

only_some_by : (b : Bool) (z u w : ℤ) → is_word z ≡ b → (if b then Some u else None) ≡ Some w → IsWord z × (w ≡ u)
only_some_by true z u w t e = (t, (cc))
only_some_by false z u w t e = absurd (cc)

only_none_by : (b : Bool) (z u : ℤ) → is_word z ≡ b → (if b then Some u else None) ≡ None → IsWord z → ⊥
only_none_by true z u t e h = absurd (cc)
only_none_by false z u t e h = absurd (cc)

only_some : (z w : ℤ) → only_word z ≡ Some w → FitsSigned w64 w × (w ≡ z)
only_some z w e = let h = only_some_by (is_word z) z z w refl e in (subst (FitsSigned w64) (sym h.1) (word_fits z h.0), h.1)

only_none : (z : ℤ) → only_word z ≡ None → IsWord z → ⊥
only_none z e = only_none_by (is_word z) z z refl e

-- a quotient or a remainder, by the test of the divisor
divided_by : (b : Bool) (y : ℤ) (o : Option ℤ) (w : ℤ) → int_eq y (pos 0) ≡ b → (if b then None else o) ≡ Some w → (y ≢ pos 0) × (o ≡ Some w)
divided_by true y o w t e = absurd (cc)
divided_by false y o w t e = ((λ z. grind (arith, ints)), e)

undivided_by : (b : Bool) (y : ℤ) (o : Option ℤ) → int_eq y (pos 0) ≡ b → (if b then None else o) ≡ None → (y ≡ pos 0) ⊎ ((y ≢ pos 0) × (o ≡ None))
undivided_by true y o t e = inl (grind (arith, ints))
undivided_by false y o t e = inr ((λ z. grind (arith, ints)), e)

remainder_fits : (x y : ℤ) → FitsSigned w64 x → FitsSigned w64 (int_rem x y)
remainder_fits x y h = let m = mag_rem x y in omega (arith, ints)

-- a word that an operation gives is its result
pub gives : (op : Op) (x y w : ℤ) → FitsSigned w64 x → result_of op x y ≡ Some w → Results (zone_op op) x y w × FitsSigned w64 w
gives Add x y w fits e = let h = only_some (x +ℤ y) w e in (h.1, h.0)
gives Sub x y w fits e = let h = only_some (x -ℤ y) w e in (h.1, h.0)
gives Mul x y w fits e = let h = only_some (x *ℤ y) w e in (h.1, h.0)
gives Div x y w fits e =
    let d = divided_by (int_eq y (pos 0)) y (only_word (int_div x y)) w refl e in
    let h = only_some (int_div x y) w d.1 in
    ((d.0, h.1), h.0)
gives Rem x y w fits e =
    let d = divided_by (int_eq y (pos 0)) y (if is_word (int_div x y) then Some (int_rem x y) else None) w refl e in
    let h = only_some_by (is_word (int_div x y)) (int_div x y) (int_rem x y) w refl d.1 in
    ((d.0, h.1), subst (FitsSigned w64) (sym h.1) (remainder_fits x y fits))

-- where an operation gives no word
abbrev pub Failing : Op → ℤ → ℤ → Type 0
Failing Add x y = LeavesWords (x +ℤ y) (x +ℤ y)
Failing Sub x y = LeavesWords (x -ℤ y) (x -ℤ y)
Failing Mul x y = LeavesWords (x *ℤ y) (x *ℤ y)
Failing Div x y = (y ≡ pos 0) ⊎ ((x ≡ negsuc (2 ^ 63 - 1)) × (y ≡ negsuc 0))
Failing Rem x y = (y ≡ pos 0) ⊎ ((x ≡ negsuc (2 ^ 63 - 1)) × (y ≡ negsuc 0))

pub failing : (op : Op) (x y : ℤ) → FitsSigned w64 x → result_of op x y ≡ None → Failing op x y
failing Add x y fits e = leaves (x +ℤ y) (only_none (x +ℤ y) e)
failing Sub x y fits e = leaves (x -ℤ y) (only_none (x -ℤ y) e)
failing Mul x y fits e = leaves (x *ℤ y) (only_none (x *ℤ y) e)
failing Div x y fits e = ⊎_elim (λ zero_is. inl zero_is)
    (λ off. inr (edge_quotient x y fits off.0 (λ h. only_none (int_div x y) off.1 (fits_word (int_div x y) h))))
    (undivided_by (int_eq y (pos 0)) y (only_word (int_div x y)) refl e)
failing Rem x y fits e = ⊎_elim (λ zero_is. inl zero_is)
    (λ off. inr (edge_quotient x y fits off.0 (λ h. only_none_by (is_word (int_div x y)) (int_div x y) (int_rem x y) refl off.1 (fits_word (int_div x y) h))))
    (undivided_by (int_eq y (pos 0)) y (if is_word (int_div x y) then Some (int_rem x y) else None) refl e)

-- a test on numbers is the one of the language
pub meets : (rel : Rel) (x y : ℤ) → compare rel x y ≡ true → Meets (zone_rel rel) x y
meets Equal x y h = grind (arith, ints)
meets Unequal x y h = λ e. grind (arith, ints)
meets Less x y h = grind (arith, ints)
meets AtMost x y h = grind (arith, ints)
meets Greater x y h = grind (arith, ints)
meets AtLeast x y h = grind (arith, ints)

pub meets_not : (rel : Rel) (x y : ℤ) → compare rel x y ≡ false → Meets (negated_rel (zone_rel rel)) x y
meets_not Equal x y h = λ e. grind (arith, ints)
meets_not Unequal x y h = grind (arith, ints)
meets_not Less x y h = grind (arith, ints)
meets_not AtMost x y h = grind (arith, ints)
meets_not Greater x y h = grind (arith, ints)
meets_not AtLeast x y h = grind (arith, ints)
