-- What is kept of the full box and of those inside is the list of boxes.
use Rattle.std.proofs.Common.{◌≡◌, ℕ, Bool, true, false, ◌&&◌, List, [], ◌∷◌, length, filter, IsTrue, refl, sym, ap, ◌∙◌}
use Rattle.std.specs.Ordering.{int_eq}
use Rattle.std.specs.Bool.{Decides}
use Rattle.std.proofs.lemmas.Slice.Eq.{slice_eq-Decides}
use Rattle.std.proofs.lemmas.Bool.Decides.{Decides-int_eq}
use Rattle.vmv_tree.specs.declared.tree.Param.{Param}
use Rattle.vmv_snapshot.specs.Code.{Body}
use Rattle.vmv_snapshot.specs.Boxes.{Range}
use Rattle.vmv_back.specs.Facts.{slots_of}
use Rattle.vmv_back.specs.Boxes.{Box, boxes_inside, is_fixed, is_nonempty, same_range, same_box, full_box, boxes_of}
use Rattle.vmv_back.specs.Kept.{keep, with_boxes}
use Rattle.vmv_back.proofs.Keeping.{kept_are_firsts}
use Rattle.vmv_back.proofs.Found.{with_both, with_one}

both_true : (a b : Bool) → (a && b) ≡ true → (a ≡ true) × (b ≡ true)
both_true true b h = (refl, h)
both_true false b h = absurd (cc)

same_range-Decides : (a b : Range) → Decides (same_range a b) (a ≡ b)
same_range-Decides a b = (
  λ h. let parts = both_true (int_eq a.0 b.0) (int_eq a.1 b.1) h in λ i. ((Decides-int_eq a.0 b.0).0 parts.0 i, (Decides-int_eq a.1 b.1).0 parts.1 i),
  λ e. (λ i. (Decides-int_eq a.0 b.0).1 (ap (λ (r : Range). r.0) e) i && (Decides-int_eq a.1 b.1).1 (ap (λ (r : Range). r.1) e) i),
)

same_box-same : (a b : Box) → same_box a b ≡ true → a ≡ b
same_box-same a b h = (slice_eq-Decides same_range-Decides a b (same_box a b) refl).0 h

pub boxes_kept : (params : List Param) (body : Body) (flags : List Bool) (full : Box) (first all : List Box) → full ≡ full_box params → IsTrue (is_nonempty (full_box params)) →
    ((x : ℕ) → slots_of flags x ≡ is_fixed (length params) body.block x) → first ≡ keep 16 same_box [] full → all ≡ with_boxes first (boxes_inside (slots_of flags) full body.block) → all ≡ boxes_of params body
boxes_kept params body flags full first all e h fixed k l =
    let same : slots_of flags ≡ is_fixed (length params) body.block = λ i x. fixed x i in
    l ∙ (λ i. with_boxes (with_one [] first (full_box params) full e h k i) (boxes_inside (same i) (e i) body.block))
    ∙ sym (with_both [] (full_box params ∷ []) (boxes_inside (is_fixed (length params) body.block) (full_box params) body.block))
    ∙ kept_are_firsts same_box same_box-same 16 (filter is_nonempty (full_box params ∷ boxes_inside (is_fixed (length params) body.block) (full_box params) body.block))
