-- The exclusions of a proof pass.
use Rattle.std.proofs.Common.{◌≡◌, ◌↔◌, inr, ℕ, zero, suc, ◌≤◌, Some, List, [], ◌∷◌, ◌++◌, length, map, take, slice_get, refl, sym, ap, subst, ◌∙◌, arith}
use Rattle.std.specs.List.{AllZip, Contains}
use Rattle.std.proofs.lemmas.List.{take-append-le}
use Rattle.vmv_tree.specs.declared.ends.NameEnds.{NameEnds}
use Rattle.vmv_tree.specs.declared.name.Name.{Name}
use Rattle.vmv_tree.specs.declared.tree.Param.{Param}
use Rattle.vmv_tree.specs.Tree.{entry}
use Rattle.vmv_tree.specs.Run.{name_of}
use Rattle.vmv_cond.specs.declared.cond.Piece.{Piece}
use Rattle.vmv_snapshot.specs.Procs.{outsides}
use Rattle.vmv_snapshot.specs.Resolution.{Resolution, IsResolution, tree_of, procs_of}
use Rattle.vmv_assumption.specs.Whole.{whole}
use Rattle.vmv_assumption.specs.Assumed.{Assumed}
use Rattle.vmv_assumption.specs.Change.{IsKept}
use Rattle.vmv_cert.specs.declared.row.Row.{Row}
use Rattle.vmv_cert.specs.declared.row.Reach.TheVariants.{Bottom}
use Rattle.vmv_cert.specs.Tables.{Box, IsEntry, IsBoxIn, IsRowAbove, Dead}
use Rattle.vmv_forward.specs.Least.{IsLeastTable, IsFirst}
use Rattle.vmv_need.specs.declared.cut.Cut.{Cut}
use Rattle.vmv_need.proofs.Kept.{kept_once}
use Rattle.vmv_proof.specs.declared.proof.Exclusion.{Exclusion}
use Rattle.vmv_proving.specs.Exclusions.{AreRecorded, IsCutBy, IsExclusionOf, AreExclusions}
use Rattle.vmv_proving.proofs.Recorded.{each_recorded, there_at}
use Rattle.vmv_proving.proofs.Frozen.{cut_fits}
use Rattle.vmv_proof_check.specs.Parts.{passes, HasRow, IsNamedEntry, IsHeaded, ExclusionTurns, AllPass}
use Rattle.vmv_proof_check.specs.Cuts.{IsCutBy as IsCutWords, IsJudgedUnder as IsJudgedWords}
use Rattle.vmv_proof_laws.proofs.Unique.{led_once}
use Rattle.vmv_proof_laws.proofs.Cutting.{cut_words, tell_take}

some_same : {X : Type 0} {x y : X} → Some x ≡ Some y → x ≡ y
some_same e = cc

pub map_some : {A B : Type 0} (f : A → B) (xs : List A) (n : ℕ) (x : A) → slice_get xs n ≡ Some x → slice_get (map f xs) n ≡ Some (f x)
map_some f [] n x e = absurd (cc)
map_some f (y ∷ xs) zero x e = let same : y ≡ x = cc in ap (λ z. Some (f z)) same
map_some f (y ∷ xs) (suc n) x e = map_some f xs n x e

-- an entry of this number and this name
pub named_entry : (program : Resolution) (n : ℕ) (name : Name) (params : List Param) → IsEntry program n params → slice_get (map name_of (procs_of program)) n ≡ Some name → IsNamedEntry program name n params
named_entry program n name params (own, body, at) named =
    let same : own ≡ name = some_same (sym (map_some name_of (procs_of program) n (entry own params body) at) ∙ named) in
    (body, at ∙ ap (λ (x : Name). Some (entry x params body)) same)

-- the partner of an element that stands behind others
record Partner {A B : Type 0} (R : A → B → Type 0) (xs : List A) (before : List B) (y : B) : Type 0 where
  x : A
  at : slice_get xs (length before) ≡ Some x
  is : R x y

partner : {A B : Type 0} (R : A → B → Type 0) (xs : List A) (before after : List B) (y : B) → AllZip R xs (before ++ y ∷ after) → Partner R xs before y
partner R [] [] after y all = absurd all
partner R [] (z ∷ before) after y all = absurd all
partner R (x ∷ xs) [] after y all = record { x = x; at = refl; is = all.0 }
partner R (x ∷ xs) (z ∷ before) after y all = let more = partner R xs before after y all.1 in record { x = more.x; at = more.at; is = more.is }

-- laws of least tables
abbrev pub HaveRows : Type 0
HaveRows = (program : Resolution) (number : ℕ) (box : Box) (ends : List NameEnds) (assumed : Assumed) (rows : List Row) → IsLeastTable program number box ends assumed rows → (first : Row) × (rest : List Row) × (rows ≡ first ∷ rest) × IsFirst program number first

abbrev pub DecideDeath : Type 0
DecideDeath = (program : Resolution) (number : ℕ) (params : List Param) (box : Box) (ends : List NameEnds) (assumed : Assumed) (first : Row) (rest : List Row) → IsResolution program → IsEntry program number params → IsBoxIn params box →
    IsLeastTable program number box ends assumed (first ∷ rest) → Dead program number box ends assumed ↔ (first.result ≡ Bottom)

abbrev pub BeginAbove : Type 0
BeginAbove = (program : Resolution) (number : ℕ) (box : Box) (ends : List NameEnds) (assumed : Assumed) (first : Row) (rest : List Row) → IsLeastTable program number box ends assumed (first ∷ rest) → IsRowAbove program number box first

-- a least table has the row of its entry and box
pub first_row : HaveRows → BeginAbove → (program : Resolution) (n : ℕ) (box : Box) (ends : List NameEnds) (assumed : Assumed) (rows : List Row) (P : Row → Type 0) → IsLeastTable program n box ends assumed rows →
    ((first : Row) (rest : List Row) → rows ≡ first ∷ rest → P first) → HasRow program n box P rows
first_row have above program n box ends assumed rows P least holds =
    let x = have program n box ends assumed rows least in
    let there : Contains rows x.0 = subst (λ (rs : List Row). Contains rs x.0) (sym x.2) (0, omega arith, refl) in
    (x.0, there, above program n box ends assumed x.0 x.1 (subst (λ (rs : List Row). IsLeastTable program n box ends assumed rs) x.2 least), holds x.0 x.1 x.2)

module _ (have : HaveRows) (death : DecideDeath) (above : BeginAbove) (base : Resolution) (ends : List NameEnds) (cuts : List Cut) (is : IsResolution base) (are : AreRecorded base ends cuts) where
  exclusion_passes : (xs : List Exclusion) → AreExclusions base ends cuts xs → (before after : List Exclusion) (x : Exclusion) → xs ≡ before ++ x ∷ after → ExclusionTurns base before x passes
  exclusion_passes xs told before after x parts =
      let all = subst (λ (ys : List Exclusion). AreExclusions base ends cuts ys) parts told in
      let one = partner (IsExclusionOf base ends cuts) cuts before after x all in
      let cut = one.x in
      let it = one.is in
      let rec = each_recorded base are.scope are.last cuts are.recorded (length before) cut one.at in
      let fits = cut_fits base ends cuts are is cut (there_at cuts (length before) cut one.at) in
      let params = fits.0.0 in
      let entry_is : IsEntry base cut.entry.0 params = fits.0.1 in
      let named = named_entry base cut.entry.0 x.entry params entry_is it.entry in
      let inside : IsBoxIn params x.within = subst (λ (b : Box). IsBoxIn params b) (sym it.within) fits.0.2 in
      let low = rec.before in
      let same_under = it.under in
      let few : x.under ≤ length before = omega (arith, low, same_under) in
      let headed : IsHeaded base before x = record {
        number = cut.entry.0;
        params = params;
        entry_is = named;
        name_is = subst (λ (n : Name). Contains (outsides (tree_of base)) n) (sym it.name) fits.1;
        box_is = inside;
        under_is = few;
      } in
      let led : IsCutBy (take x.under cuts) (λ name. whole) it.judged.frozen = subst (λ (k : ℕ). IsCutBy (take k cuts) (λ name. whole) it.judged.frozen) (sym it.under) it.judged.frozen_is in
      let words = cut_words base ends cuts (take x.under cuts) (take x.under (before ++ x ∷ after)) it.judged.frozen (tell_take base ends cuts x.under cuts (before ++ x ∷ after) all) led in
      let front : take x.under (before ++ x ∷ after) ≡ take x.under before = take-append-le x.under before (x ∷ after) few in
      let kept : IsKept it.judged.frozen x.name x.piece it.assumed = subst (λ (p : Piece). IsKept it.judged.frozen x.name p it.assumed) (sym it.piece) (subst (λ (n : Name). IsKept it.judged.frozen n cut.piece it.assumed) (sym it.name) it.judged.kept) in
      let judged : IsJudgedWords before x it.assumed = (it.judged.frozen, subst (λ (ys : List Exclusion). IsCutWords ys it.judged.frozen) front words, kept) in
      let frozen : rec.frozen ≡ it.judged.frozen = led_once (take cut.under cuts) (λ name. whole) rec.frozen it.judged.frozen rec.frozen_is it.judged.frozen_is in
      let same : rec.acts.kept ≡ it.assumed = kept_once it.judged.frozen rec.acts.kept it.assumed cut.name cut.piece (subst (λ (a : Assumed). IsKept a cut.name cut.piece rec.acts.kept) frozen rec.acts.kept_is) it.judged.kept in
      let dead : Dead base cut.entry.0 cut.within ends it.assumed = subst (λ (a : Assumed). Dead base cut.entry.0 cut.within ends a) same (subst (λ (es : List NameEnds). Dead base cut.entry.0 cut.within es rec.acts.kept) are.ends_are rec.acts.dead) in
      let row : HasRow base cut.entry.0 cut.within (λ row. row.result ≡ Bottom) x.table.rows =
      first_row have above base cut.entry.0 cut.within ends it.assumed x.table.rows (λ row. row.result ≡ Bottom) it.least
      (λ first rest e. (death base cut.entry.0 params cut.within ends it.assumed first rest is entry_is fits.0.2 (subst (λ (rs : List Row). IsLeastTable base cut.entry.0 cut.within ends it.assumed rs) e it.least)).0 dead) in
      let row_in : HasRow base cut.entry.0 x.within (λ row. row.result ≡ Bottom) x.table.rows = subst (λ (b : Box). HasRow base cut.entry.0 b (λ row. row.result ≡ Bottom) x.table.rows) (sym it.within) row in
      inr (headed, (it.assumed, judged, (it.least.accepted, row_in)))

  pub all_pass : (xs : List Exclusion) → AreExclusions base ends cuts xs → AllPass base xs
  all_pass xs told before after x parts = exclusion_passes xs told before after x parts
