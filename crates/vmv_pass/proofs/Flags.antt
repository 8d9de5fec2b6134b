-- The flags of the calls whose inputs are raised.
use Rattle.std.proofs.Common.{◌≡◌, ⊎_elim, ℕ, zero, suc, ◌≤◌, Bool, true, false, Some, List, [], ◌∷◌, length, slice_get, slice_set, refl, sym, ap, subst, arith, ◌∙◌}
use Rattle.vmv_zone.specs.declared.zone.Zone.{Zone}
use Rattle.vmv_pass.specs.Told.{AreTold}
use Rattle.vmv_pass.proofs.Zips.{set_same, set_other, set_cases}

pub told_same : (inputs : List Zone) (risen : List Bool) → AreTold inputs risen inputs risen
told_same inputs risen c past = (past, refl)

pub told_chain : (i : List Zone) (r : List Bool) (i' : List Zone) (r' : List Bool) (i'' : List Zone) (r'' : List Bool) → AreTold i r i' r' → AreTold i' r' i'' r'' → AreTold i r i'' r''
told_chain i r i' r' i'' r'' a b c past =
    let y = b c past in
    let x = a c y.0 in
    (x.0, y.1 ∙ x.1)

-- a flag that isn't set where one was set is another one
unset : (risen : List Bool) (c k : ℕ) → slice_get (slice_set risen c true) k ≡ Some false → (k ≡ c → ⊥) × (slice_get risen k ≡ Some false)
unset risen c k past =
    ⊎_elim (λ (h : (k ≡ c) × (true ≡ false)). absurd (let e = h.1 in cc))
    (λ (h : slice_get risen k ≡ Some false). (
      λ e.
          (let there : slice_get (slice_set risen k true) k ≡ Some true = set_same risen k true false h in
          let bad : Some true ≡ Some false = sym there ∙ subst (λ j. slice_get (slice_set risen j true) k ≡ Some false) (sym e) past in
          absurd (cc)),
      h,
    )) (set_cases risen c k true false past)

-- the input of one call is another, and its flag is set
pub told_take : (inputs : List Zone) (risen risen' : List Bool) (c : ℕ) (input : Zone) → risen' ≡ slice_set risen c true → AreTold inputs risen (slice_set inputs c input) risen'
told_take inputs risen risen' c input is k past =
    let u = unset risen c k (subst (λ (l : List Bool). slice_get l k ≡ Some false) is past) in
    (u.1, set_other inputs c k input u.0)

-- past the end nothing is set
pub set_past : (xs : List Bool) (c : ℕ) (x : Bool) → length xs ≤ c → xs ≡ slice_set xs c x
set_past [] c x out = refl
set_past (y ∷ xs) zero x out = absurd (omega (arith, out))
set_past (y ∷ xs) (suc c) x out = ap (λ l. y ∷ l) (set_past xs c x (omega (arith, out)))
