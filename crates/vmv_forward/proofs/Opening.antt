-- A box of an entry has few ranges, one for each parameter, and none is empty.
use Rattle.std.proofs.Common.{◌≡◌, ℕ, zero, suc, ◌+◌, ◌-◌, ◌^◌, ◌<◌, ◌==◌, Bool, true, false, if◌then◌else◌, ◌≤◌, ℤ, pos, neg_ℤ, ◌≤ℤ◌, FitsSigned, Some, List, [], ◌∷◌, length, get_or, slice_get, refl, sym, ap, subst, arith, ◌∙◌}
use Rattle.std.proofs.lemmas.Int.{ints}
use Rattle.std.proofs.lemmas.Bool.{eqb-true}
use Rattle.vmv_zone.specs.Bounds.{top_bound}
use Rattle.std.specs.Int.{w64}
use Rattle.std.specs.List.{All}
use Rattle.std.specs.Option.{option_map}
use Rattle.std.proofs.lemmas.Option.{slice_get-map}
use Rattle.std.proofs.lemmas.Slice.Zip.{AllZip-long}
use Rattle.vmv_tree.specs.declared.tree.Param.{Param}
use Rattle.vmv_tree.specs.Tree.{Item, entry}
use Rattle.vmv_snapshot.specs.View.{code_of}
use Rattle.vmv_snapshot.specs.Procs.{params_of}
use Rattle.vmv_snapshot.specs.Resolution.{Resolution, IsResolution, procs_of, tree_of}
use Rattle.vmv_step.proofs.Procedures.{has_room}
use Rattle.vmv_zone.specs.declared.zone.Zone.{Zone}
use Rattle.vmv_zone.specs.Zone.{bound_of}
use Rattle.vmv_cert.specs.Tables.{Box, IsEntry, IsBoxIn, IsBoxState}
use Rattle.vmv_check.specs.Walker.{HasParams}
use Rattle.vmv_check.proofs.Lists.{within, item_at}
use Rattle.vmv_forward.proofs.BoxPoint.{AreRanges}

pub box_few : (program : Resolution) (n : ℕ) (params : List Param) (box : Box) → IsEntry program n params → IsBoxIn params box → IsResolution program → (length box ≤ 16) × HasParams program n (length box)
box_few program n params box (name, body, at) within_box is =
    let long : length box ≡ length params = AllZip-long (λ (p : Param) (range : ℤ × ℤ). (p.lo ≤ℤ range.0) × (range.0 ≤ℤ range.1) × (range.1 ≤ℤ p.hi)) params box within_box in
    let inside = within (procs_of program) n (entry name params body) at in
    let count = is.count in
    let code = item_at program.codes n (omega arith) in
    let room = has_room (tree_of program) n (code_of code.0) (entry name params body) is.valid (is.resolves n code.0 code.1) at in
    let few = room.few in
    let fits : length params + length body.vars ≤ code.0.vars = room.room in
    let has : HasParams program n (length params) = slice_get-map (λ (item : Item). length (params_of item)) (procs_of program) n ∙ ap (option_map (λ (item : Item). length (params_of item))) at in
    (omega arith, subst (λ k. HasParams program n k) (sym long) has)

in_order : (params : List Param) (box : Box) (k : ℕ) (d : ℤ × ℤ) → IsBoxIn params box → k < length box → (get_or box k d).0 ≤ℤ (get_or box k d).1
in_order [] [] k d in_box h = absurd (omega arith)
in_order [] (r ∷ box) k d in_box h = absurd in_box
in_order (p ∷ params) [] k d in_box h = absurd in_box
in_order (p ∷ params) (r ∷ box) zero d in_box h = in_box.0.1
in_order (p ∷ params) (r ∷ box) (suc k) d in_box h = in_order params box k d in_box.1 (omega (arith, h))

range_there : (box : Box) (k : ℕ) (d : ℤ × ℤ) → k < length box → slice_get box k ≡ Some (get_or box k d)
range_there [] k d h = absurd (omega arith)
range_there (r ∷ box) zero d h = refl
range_there (r ∷ box) (suc k) d h = range_there box k d (omega (arith, h))

no_zero : (k : ℕ) → ((suc k) == 0) ≡ false
no_zero k = by ((suc k) == 0) refl
  where
    by : (b : Bool) → ((suc k) == 0) ≡ b → ((suc k) == 0) ≡ false
    by true e = let same = eqb-true (suc k) 0 e in absurd (omega arith)
    by false e = e

zero_no : (k : ℕ) → (0 == (suc k)) ≡ false
zero_no k = by (0 == (suc k)) refl
  where
    by : (b : Bool) → (0 == (suc k)) ≡ b → (0 == (suc k)) ≡ false
    by true e = let same = eqb-true 0 (suc k) e in absurd (omega arith)
    by false e = e

-- the bound that words keep, by the places that are 0
abbrev top_of : Bool → Bool → Bool → ℤ
top_of same one two = if same then pos 0 else if one then pos (2 ^ 63 - 1) else if two then pos (2 ^ 63) else pos (2 ^ 64 - 1)

first_top : (one two three : Bool) → one ≡ false → two ≡ true → top_of one two three ≡ pos (2 ^ 63 - 1)
first_top true two three e f = absurd (cc)
first_top false true three e f = refl
first_top false false three e f = absurd (cc)

second_top : (one two three : Bool) → one ≡ false → two ≡ false → three ≡ true → top_of one two three ≡ pos (2 ^ 63)
second_top true two three e f g = absurd (cc)
second_top false true three e f g = absurd (cc)
second_top false false true e f g = refl
second_top false false false e f g = absurd (cc)

top_high : (z : Zone) (k : ℕ) → k + 1 ≤ z.vars → bound_of z (k + 1) 0 ≤ℤ pos (2 ^ 63 - 1)
top_high z k h =
    let top : top_bound (suc k) 0 ≡ pos (2 ^ 63 - 1) = first_top ((suc k) == 0) (0 == 0) ((suc k) == 0) (no_zero k) refl in
    let below : bound_of z (suc k) 0 ≤ℤ pos (2 ^ 63 - 1) = subst (λ (t : ℤ). bound_of z (suc k) 0 ≤ℤ t) top (z.topped (suc k) 0 (omega (arith, h)) (omega arith)) in
    subst (λ (m : ℕ). bound_of z m 0 ≤ℤ pos (2 ^ 63 - 1)) (let e : suc k ≡ k + 1 = omega arith in e) below

top_low : (z : Zone) (k : ℕ) → k + 1 ≤ z.vars → bound_of z 0 (k + 1) ≤ℤ pos (2 ^ 63)
top_low z k h =
    let top : top_bound 0 (suc k) ≡ pos (2 ^ 63) = second_top (0 == (suc k)) ((suc k) == 0) (0 == 0) (zero_no k) (no_zero k) refl in
    let below : bound_of z 0 (suc k) ≤ℤ pos (2 ^ 63) = subst (λ (t : ℤ). bound_of z 0 (suc k) ≤ℤ t) top (z.topped 0 (suc k) (omega arith) (omega (arith, h))) in
    subst (λ (m : ℕ). bound_of z 0 m ≤ℤ pos (2 ^ 63)) (let e : suc k ≡ k + 1 = omega arith in e) below

both_fit : (lo hi a b : ℤ) → a ≡ hi → b ≡ neg_ℤ lo → a ≤ℤ pos (2 ^ 63 - 1) → b ≤ℤ pos (2 ^ 63) → lo ≤ℤ hi → FitsSigned w64 lo × FitsSigned w64 hi
both_fit lo hi a b e f s t o = (grind (arith, ints), grind (arith, ints))

-- the ends of a box that has a state are words
pub box_words : (params : List Param) (box : Box) (z : Zone) → IsBoxIn params box → IsBoxState box z → All (λ range. FitsSigned w64 range.0 × FitsSigned w64 range.1) box
box_words params box z in_box is k d h =
    let r = get_or box k d in
    let at = range_there box k d h in
    let vars = is.vars in
    both_fit r.0 r.1 (bound_of z (k + 1) 0) (bound_of z 0 (k + 1)) (is.high k r at) (is.low k r at) (top_high z k (omega (arith, vars, h))) (top_low z k (omega (arith, vars, h))) (in_order params box k d in_box h)

-- the ranges of such a box, where they are of words
pub box_ranges : (params : List Param) (box : Box) → IsBoxIn params box → All (λ range. FitsSigned w64 range.0 × FitsSigned w64 range.1) box → AreRanges box
box_ranges [] [] in_box words k d h = absurd (omega arith)
box_ranges [] (r ∷ box) in_box words k d h = absurd in_box
box_ranges (p ∷ params) [] in_box words k d h = absurd in_box
box_ranges (p ∷ params) (r ∷ box) in_box words zero d h = ((words 0 d (omega arith)).0, in_box.0.1)
box_ranges (p ∷ params) (r ∷ box) in_box words (suc k) d h = box_ranges params box in_box.1 (λ i e g. words (suc i) e (omega (arith, g))) k d (omega (arith, h))
