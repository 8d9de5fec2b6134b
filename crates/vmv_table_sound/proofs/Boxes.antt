-- The words of a box are a point of the input of each row above it.
use Rattle.std.proofs.Common.{◌∙◌, ◌≡◌, ℕ, zero, suc, ◌+◌, ◌<◌, ◌≤◌, ◌^◌, ◌-◌, ℤ, pos, ◌-ℤ◌, ◌≤ℤ◌, FitsSigned, Some, List, [], ◌∷◌, length, map, get_or, slice_get, refl, sym, subst, arith}
use Rattle.std.specs.Prelude.{neg_ℤ}
use Rattle.std.specs.Int.{w64}
use Rattle.std.proofs.lemmas.Int.{ints}
use Rattle.std.proofs.lemmas.Slice.Zip.{AllZip-long}
use Rattle.vmv_tree.specs.declared.name.Name.{Name}
use Rattle.vmv_tree.specs.declared.ends.NameEnds.{NameEnds}
use Rattle.vmv_tree.specs.declared.tree.Param.{Param}
use Rattle.vmv_tree.specs.Words.{IsWord}
use Rattle.vmv_tree.specs.Run.{Answers, done, Run}
use Rattle.vmv_tree.specs.Safe.{FitParams}
use Rattle.vmv_snapshot.specs.Resolution.{Resolution, IsResolution, tree_of}
use Rattle.vmv_zone.specs.declared.zone.Zone.{Zone}
use Rattle.vmv_zone.specs.Bounds.{top_bound}
use Rattle.vmv_zone.specs.Zone.{HasPoint, bound_of}
use Rattle.vmv_zone.proofs.GuardLaws.{norm_point}
use Rattle.vmv_zone.proofs.MoreLaws.{below_point}
use Rattle.vmv_assumption.specs.Assumed.{Assumed}
use Rattle.vmv_assumption.specs.Within.{Meet}
use Rattle.vmv_step.specs.Agree.{words_at}
use Rattle.vmv_step.proofs.LoopPoints.{under_top}
use Rattle.vmv_step.proofs.Result.{word_fits, fits_word}
use Rattle.vmv_run.specs.Replay.{IsProcName}
use Rattle.vmv_cert.specs.declared.row.Row.{Row}
use Rattle.vmv_cert.specs.declared.row.Reach.{Reach}
use Rattle.vmv_cert.specs.Walk.{Returns}
use Rattle.vmv_cert.specs.Tables.{Box, IsBoxState, IsBoxIn, IsRowAbove, Dead, ranges_of}
use Rattle.vmv_check.proofs.Lists.{some_same}
use Rattle.vmv_table_sound.specs.Told.{AreInBox, SaysNoReturn}
use Rattle.vmv_table_sound.proofs.Rows.{sound}

-- the word of one place, and its range
record InRangeAt (box : Box) (words : List ℤ) (k : ℕ) : Type 0 where
  range : ℤ × ℤ
  at : slice_get box k ≡ Some range
  word : IsWord (get_or words k (pos 0))
  low : range.0 ≤ℤ get_or words k (pos 0)
  high : get_or words k (pos 0) ≤ℤ range.1

range_at : (box : Box) (words : List ℤ) (k : ℕ) → AreInBox box words → k < length box → InRangeAt box words k
range_at [] words k are h = absurd (omega arith)
range_at (r ∷ box) [] k are h = absurd are
range_at (r ∷ box) (w ∷ words) zero are h = record { range = r; at = refl; word = are.0.0; low = are.0.1; high = are.0.2 }
range_at (r ∷ box) (w ∷ words) (suc k) are h = let g = range_at box words k are.1 (omega (arith, h)) in record { range = g.range; at = g.at; word = g.word; low = g.low; high = g.high }

word_at : (box : Box) (words : List ℤ) (i : ℕ) → AreInBox box words → i ≤ length box → FitsSigned w64 (words_at words i)
word_at box words zero are h = omega (arith, ints)
word_at box words (suc k) are h = let g = range_at box words k are (omega (arith, h)) in word_fits (get_or words k (pos 0)) g.word

-- a difference of two things of the box
box_bound : (box : Box) (z : Zone) (words : List ℤ) (i j : ℕ) → IsBoxState box z → AreInBox box words → i ≤ length box → j ≤ length box → (words_at words i -ℤ words_at words j) ≤ℤ bound_of z i j
box_bound box z words zero zero b are hi hj = let e = b.origin in omega (arith, ints)
box_bound box z words (suc k) zero b are hi hj =
    let g = range_at box words k are (omega (arith, hi)) in
    let e : bound_of z (suc k) 0 ≡ g.range.1 = subst (λ m. bound_of z m 0 ≡ g.range.1) (let s : k + 1 ≡ suc k = omega arith in s) (b.high k g.range g.at) in
    let h = g.high in
    rw e (omega (arith, ints))
box_bound box z words zero (suc k) b are hi hj =
    let g = range_at box words k are (omega (arith, hj)) in
    let e : bound_of z 0 (suc k) ≡ neg_ℤ g.range.0 = subst (λ m. bound_of z 0 m ≡ neg_ℤ g.range.0) (let s : k + 1 ≡ suc k = omega arith in s) (b.low k g.range g.at) in
    let h = g.low in
    rw e (omega (arith, ints))
box_bound box z words (suc k) (suc m) b are hi hj =
    let e = b.others (suc k) (suc m) (omega arith) hi (omega arith) hj in
    subst (λ x. (words_at words (suc k) -ℤ words_at words (suc m)) ≤ℤ x) (sym e) (under_top (words_at words) (suc k) (suc m) refl (word_at box words (suc k) are hi) (word_at box words (suc m) are hj))

box_point : (box : Box) (z : Zone) (words : List ℤ) → IsBoxState box z → AreInBox box words → HasPoint z (words_at words)
box_point box z words b are =
    let vars = b.vars in
    record {
      not_bottom = b.not_bottom;
      zero = refl;
      words = λ i hi. word_at box words i are (omega arith);
      bounds = λ i j hi hj. box_bound box z words i j b are (omega arith) (omega arith);
      marks = λ i from hi marked. absurd (b.unmarked i marked);
    }

-- the words are a point of the row's input
pub record HasInput (row : Row) (words : List ℤ) : Type 0 where
  pub long : length words ≡ row.input.vars
  pub point : HasPoint row.input (words_at words)

pub row_input : (program : Resolution) (number : ℕ) (box : Box) (row : Row) (words : List ℤ) → IsRowAbove program number box row → AreInBox box words → HasInput row words
row_input program number box row words a are =
    let one = norm_point a.boxed a.least (words_at words) a.box_norm (box_point box a.boxed words a.box_is are) in
    let vars : a.least.vars ≡ a.input.vars = (a.box_norm.vars ∙ a.box_is.vars) ∙ sym (a.input_norm.vars ∙ a.over) in
    let two = below_point a.least a.input (words_at words) vars a.above one in
    record {
      long = AllZip-long _ box words are ∙ sym a.over;
      point = below_point a.input row.input (words_at words) a.input_norm.vars a.input_norm.below two;
    }

pub dead_stays : (program : Resolution) (number : ℕ) (box : Box) (assumed : Assumed) (rows : List Row) (name : Name) (words : List ℤ) (answers : Answers) (word : ℤ) → IsResolution program →
    SaysNoReturn program number box assumed rows → IsProcName (tree_of program) number name → AreInBox box words → Meet answers assumed → Run (tree_of program) name words answers (done word) → ⊥
dead_stays program number box assumed rows name words answers word is (params, entry, inside, (row, accepted, one, above, bottom)) at are meet run =
    let same : name ≡ row.proc = some_same (sym at ∙ above.named) in
    let P : Name → Type 0 = λ x. Run (tree_of program) x words answers (done word) in
    let input = row_input program number box row words above are in
    let told : Returns row.result word = sound program assumed rows row words answers (done word) is accepted one input.long input.point meet (subst P same run) in
    subst (λ (r : Reach). Returns r word) bottom told

-- a table of threshold states is a table
pub dead_says : (program : Resolution) (number : ℕ) (box : Box) (ends : List NameEnds) (assumed : Assumed) → Dead program number box ends assumed → (rows : List Row) × SaysNoReturn program number box assumed rows
dead_says program number box ends assumed (params, entry, inside, (rows, row, accepted, thresholds, one, above, bottom)) = (rows, (params, entry, inside, (row, accepted, one, above, bottom)))

top_high : (y : ℕ) → 1 ≤ y → top_bound y 0 ≡ pos (2 ^ 63 - 1)
top_high y h = grind arith

top_low : (y : ℕ) → 1 ≤ y → top_bound 0 y ≡ pos (2 ^ 63)
top_low y h = grind arith

-- the ends of the ranges of a box with a state are words
low_word : (box : Box) (z : Zone) (k : ℕ) (range : ℤ × ℤ) → IsBoxState box z → k < length box → slice_get box k ≡ Some range → range.0 ≤ℤ range.1 → IsWord range.0
low_word box z k range b h at order =
    let vars = b.vars in
    let high = z.topped (k + 1) 0 (omega arith) (omega arith) in
    let low = z.topped 0 (k + 1) (omega arith) (omega arith) in
    let high_is_top = top_high (k + 1) (omega arith) in
    let low_is_top = top_low (k + 1) (omega arith) in
    let high_is = b.high k range at in
    let low_is = b.low k range at in
    fits_word range.0 (omega (arith, ints))

-- the least words of a box
abbrev pub least_words : Box → List ℤ
least_words box = map (λ range. range.0) box

least_inside : (box : Box) → ((k : ℕ) (range : ℤ × ℤ) → slice_get box k ≡ Some range → IsWord range.0 × (range.0 ≤ℤ range.1)) → AreInBox box (least_words box)
least_inside [] each = tt
least_inside (r ∷ box) each =
    let here = each 0 r refl in
    let order = here.1 in
    ((here.0, omega (arith, ints), here.1), least_inside box (λ k range at. each (suc k) range at))

in_order : (params : List Param) (box : Box) (k : ℕ) (range : ℤ × ℤ) → IsBoxIn params box → slice_get box k ≡ Some range → (k < length box) × (range.0 ≤ℤ range.1)
in_order params [] k range inside at = absurd (cc)
in_order [] (r ∷ box) k range inside at = absurd inside
in_order (p ∷ params) (r ∷ box) zero range inside at = let same : r ≡ range = some_same at in (omega arith, subst (λ (x : ℤ × ℤ). x.0 ≤ℤ x.1) same inside.0.1)
in_order (p ∷ params) (r ∷ box) (suc k) range inside at = let h = in_order params box k range inside.1 at in (omega (arith, h.0), h.1)

pub least_in_box : (params : List Param) (box : Box) (z : Zone) → IsBoxState box z → IsBoxIn params box → AreInBox box (least_words box)
least_in_box params box z b inside = least_inside box (λ k range at. let h = in_order params box k range inside at in (low_word box z k range b h.0 at h.1, h.1))

-- words of a box in the parameters' ranges fit the parameters
pub fit_in : (params : List Param) (box : Box) (words : List ℤ) → IsBoxIn params box → AreInBox box words → FitParams params words
fit_in [] [] [] inside are = tt
fit_in [] [] (w ∷ words) inside are = absurd are
fit_in [] (r ∷ box) words inside are = absurd inside
fit_in (p ∷ params) [] words inside are = absurd inside
fit_in (p ∷ params) (r ∷ box) [] inside are = absurd are
fit_in (p ∷ params) (r ∷ box) (w ∷ words) inside are =
    let a = inside.0.0 in
    let b = inside.0.2 in
    let c = are.0.1 in
    let d = are.0.2 in
    (are.0.0, omega (arith, ints), omega (arith, ints), fit_in params box words inside.1 are.1)

-- words that fit the parameters are in the box of their ranges
pub fit_box : (params : List Param) (words : List ℤ) → FitParams params words → AreInBox (ranges_of params) words
fit_box [] [] fit = tt
fit_box [] (w ∷ words) fit = absurd fit
fit_box (p ∷ params) [] fit = absurd fit
fit_box (p ∷ params) (w ∷ words) fit = ((fit.0, fit.1, fit.2), fit_box params words fit.3)
