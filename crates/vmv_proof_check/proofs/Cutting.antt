-- What is assumed behind exclusions, one after another.
use Rattle.std.proofs.Common.{◌≡◌, ◌↔◌, ⊎_elim, ℤ, List, [], ◌∷◌, ◌++◌, refl, sym, subst, arith}
use Rattle.std.proofs.lemmas.Int.{ints}
use Rattle.std.specs.List.{Contains}
use Rattle.vmv_tree.specs.declared.name.Name.{Name}
use Rattle.vmv_tree.specs.Words.{IsWord}
use Rattle.vmv_cond.specs.declared.cond.Cond.{Cond}
use Rattle.vmv_cond.specs.Cond.{Holds}
use Rattle.vmv_cond.specs.Piece.{InPiece}
use Rattle.vmv_assumption.specs.Whole.{whole}
use Rattle.vmv_assumption.specs.Assumed.{Assumed}
use Rattle.vmv_assumption.specs.Change.{IsCut}
use Rattle.vmv_assumption.proofs.Names.{by_name}
use Rattle.vmv_check.proofs.Lists.{push_in, old_in, new_in}
use Rattle.vmv_proof.specs.declared.proof.Exclusion.{Exclusion}
use Rattle.vmv_proof_check.specs.Cuts.{IsSpared, IsCutBy}

none_in : {X : Type 0} (x : X) → Contains [] x → ⊥
none_in x (k, h, e) = absurd (omega (arith, h))

whole_words : (word : ℤ) → Holds whole word ↔ IsWord word
whole_words word = (
  λ h. (let a = h.above in let b = h.below in grind (arith, ints)),
  λ w. record { above = grind (arith, ints); below = grind (arith, ints); nonzero = λ t. absurd (cc) },
)

-- no exclusion cuts nothing
pub cut_by_none : (assumed : Assumed) → ((name : Name) → assumed name ≡ whole) → IsCutBy [] assumed
cut_by_none assumed are name word =
    let P : Cond → Type 0 = λ c. Holds c word ↔ (IsWord word × IsSpared [] name word) in
    subst P (sym (are name)) ((λ h. ((whole_words word).0 h, λ x there. absurd (none_in x there))), (λ h. (whole_words word).1 h.0))

spared_before : (cuts : List Exclusion) (x : Exclusion) (name : Name) (word : ℤ) → IsSpared (cuts ++ x ∷ []) name word → IsSpared cuts name word
spared_before cuts x name word h y there = h y (old_in cuts x y there)

spared_more : (cuts : List Exclusion) (x : Exclusion) (name : Name) (word : ℤ) → IsSpared cuts name word → (x.name ≡ name → InPiece x.piece word → ⊥) → IsSpared (cuts ++ x ∷ []) name word
spared_more cuts x name word h off y there same inside =
    ⊎_elim (λ (old : Contains cuts y). h y old same inside)
    (λ (e : x ≡ y). off (subst (λ (z : Exclusion). z.name ≡ name) (sym e) same) (subst (λ (z : Exclusion). InPiece z.piece word) (sym e) inside))
    (push_in cuts x y there)

-- one more exclusion
pub cut_by_more : (cuts : List Exclusion) (x : Exclusion) (a b : Assumed) → IsCutBy cuts a → IsCut a x.name x.piece b → IsCutBy (cuts ++ x ∷ []) b
cut_by_more cuts x a b old cut =
    by_name {P = λ name. (word : ℤ) → Holds (b name) word ↔ (IsWord word × IsSpared (cuts ++ x ∷ []) name word)} x.name
    (λ word. (
      (λ h.
          (let both = (cut.there word).0 h in
          let was = (old x.name word).0 both.0 in
          (was.0, spared_more cuts x x.name word was.1 (λ same. both.1)))),
      λ h. (cut.there word).1 ((old x.name word).1 (h.0, spared_before cuts x x.name word h.1), h.1 x (new_in cuts x) refl),
    ))
    (λ name other word. (
      (λ h.
          (let was = (old name word).0 (subst (λ (c : Cond). Holds c word) (cut.elsewhere name other) h) in
          (was.0, spared_more cuts x name word was.1 (λ same. absurd (other (sym same)))))),
      λ h. subst (λ (c : Cond). Holds c word) (sym (cut.elsewhere name other)) ((old name word).1 (h.0, spared_before cuts x name word h.1)),
    ))
