-- Exclusions that are told one after the other.
use Rattle.std.proofs.Common.{◌≡◌, ℕ, ◌+◌, ◌≤◌, Some, List, [], ◌∷◌, ◌++◌, length, take, slice_get, sym, subst, arith}
use Rattle.std.specs.List.{AllZip}
use Rattle.std.proofs.lemmas.List.{take_all}
use Rattle.vmv_tree.specs.declared.ends.NameEnds.{NameEnds}
use Rattle.vmv_tree.specs.declared.name.Name.{Name}
use Rattle.vmv_cond.specs.declared.cond.Cond.{Cond}
use Rattle.vmv_snapshot.specs.Resolution.{Resolution}
use Rattle.vmv_need.specs.declared.cut.Cut.{Cut}
use Rattle.vmv_need.proofs.First.{take_more}
use Rattle.vmv_proof.specs.declared.proof.Exclusion.{Exclusion}
use Rattle.vmv_proving.specs.Exclusions.{AreRecorded, IsExclusionOf, AreExclusions}
use Rattle.vmv_proving.specs.Work.{IsFrozen, AreToldBefore}
use Rattle.vmv_proving.proofs.Frozen.{under_rises}

-- one more pair at the ends of two lists
pub zip_push : {A B : Type 0} (R : A → B → Type 0) (xs : List A) (ys : List B) (x : A) (y : B) → AllZip R xs ys → R x y → AllZip R (xs ++ x ∷ []) (ys ++ y ∷ [])
zip_push R [] [] x y all one = (one, tt)
zip_push R [] (z ∷ ys) x y all one = absurd all
zip_push R (z ∷ xs) [] x y all one = absurd all
zip_push R (z ∷ xs) (w ∷ ys) x y all one = (all.0, zip_push R xs ys x y all.1 one)

module _ (base : Resolution) (ends : List NameEnds) (cuts : List Cut) where
  pub none_told : (held : List (Name × Cond)) (xs : List Exclusion) → xs ≡ [] → IsFrozen base cuts 0 held → AreToldBefore base ends cuts 0 0 held xs
  none_told held xs none frozen = record {
    told = subst (λ (ys : List Exclusion). AllZip (IsExclusionOf base ends cuts) [] ys) (sym none) tt;
    frozen = frozen;
    next = λ cut at. omega arith;
  }

  pub one_told : AreRecorded base ends cuts → (place done : ℕ) (cut : Cut) (held frozen : List (Name × Cond)) (xs more : List Exclusion) (x : Exclusion) → slice_get cuts place ≡ Some cut → AreToldBefore base ends cuts place done held xs →
      IsFrozen base cuts cut.under frozen → IsExclusionOf base ends cuts cut x → more ≡ xs ++ x ∷ [] → AreToldBefore base ends cuts (place + 1) cut.under frozen more
  one_told are place done cut held frozen xs more x at old led is pushed = record {
    told = subst (λ (ys : List Exclusion). AllZip (IsExclusionOf base ends cuts) (take (place + 1) cuts) ys) (sym pushed)
        (subst (λ (cs : List Cut). AllZip (IsExclusionOf base ends cuts) cs (xs ++ x ∷ [])) (sym (take_more cuts place cut at)) (zip_push (IsExclusionOf base ends cuts) (take place cuts) xs cut x old.told is));
    frozen = led;
    next = λ other at'. under_rises base ends cuts are place cut other at at';
  }

  pub all_told : (place done : ℕ) (held : List (Name × Cond)) (xs : List Exclusion) → length cuts ≤ place → AreToldBefore base ends cuts place done held xs → AreExclusions base ends cuts xs
  all_told place done held xs over told = subst (λ (cs : List Cut). AllZip (IsExclusionOf base ends cuts) cs xs) (take_all place cuts over) told.told
