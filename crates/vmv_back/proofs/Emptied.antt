-- Inside an empty box all boxes are empty.
use Rattle.std.proofs.Common.{◌≡◌, ℕ, ◌+◌, ℤ, pos, ◌+ℤ◌, ◌-ℤ◌, int_le, Bool, true, false, ◌&&◌, ◌==◌, Option, Some, None, List, [], ◌∷◌, ◌++◌, filter, refl, sym, ap, ◌∙◌, arith, if◌then◌else◌}
use Rattle.std.specs.Bool.{⊤}
use Rattle.std.specs.Int.{int_min, int_max}
use Rattle.std.specs.Ordering.{int_eq}
use Rattle.std.proofs.lemmas.Int.{ints, clamps}
use Rattle.vmv_tree.specs.declared.tree.Rel.{Rel}
use Rattle.vmv_tree.specs.declared.tree.Rel.TheVariants.{Equal, Unequal, Less, AtMost, Greater, AtLeast}
use Rattle.vmv_snapshot.specs.declared.code.CodeOperand.{CodeOperand}
use Rattle.vmv_snapshot.specs.declared.code.CodeOperand.TheVariants.{Lit, Var}
use Rattle.vmv_snapshot.specs.declared.code.Simple.{Simple}
use Rattle.vmv_snapshot.specs.declared.code.Simple.TheVariants.{Set, Arith, Ask, Assert}
use Rattle.vmv_snapshot.specs.Code.{Stmt, plain, help, branch, loop, Block, [], ◌⨾◌}
use Rattle.vmv_snapshot.specs.Boxes.{Range}
use Rattle.vmv_back.specs.declared.fact.Fact.{Fact}
use Rattle.vmv_back.specs.Facts.{fact_of, negation, narrow, narrow_slot, narrow_from, narrowed}
use Rattle.vmv_back.specs.Boxes.{Box, where_true, where_false, failing, parts, over_cap, simple_boxes, boxes_in, boxes_inside, is_nonempty_range, is_nonempty}

-- a narrower range has a word only where the range has one
low_rises : (x y w : ℤ) → int_le x y ≡ false → int_le (int_max x w) y ≡ false
low_rises x y w h = grind (arith, ints, clamps)

high_falls : (x y w : ℤ) → int_le x y ≡ false → int_le x (int_min y w) ≡ false
high_falls x y w h = grind (arith, ints, clamps)

both_close : (x y w : ℤ) → int_le x y ≡ false → int_le (int_max x w) (int_min y w) ≡ false
both_close x y w h = grind (arith, ints, clamps)

low_up : (x y : ℤ) → int_le x y ≡ false → int_le (x +ℤ pos 1) y ≡ false
low_up x y h = grind (arith, ints)

high_down : (x y : ℤ) → int_le x y ≡ false → int_le x (y -ℤ pos 1) ≡ false
high_down x y h = grind (arith, ints)

unequal_by : (a b : Bool) (x y : ℤ) → int_le x y ≡ false → is_nonempty_range (if a then (x +ℤ pos 1, y) else (if b then (x, y -ℤ pos 1) else (x, y))) ≡ false
unequal_by true b x y h = low_up x y h
unequal_by false true x y h = high_down x y h
unequal_by false false x y h = h

range_stays : (rel : Rel) (word : ℤ) (r : Range) → is_nonempty_range r ≡ false → is_nonempty_range (narrow rel word r) ≡ false
range_stays Equal word r h = both_close r.0 r.1 word h
range_stays Unequal word r h = unequal_by (int_eq word r.0) (int_eq word r.1) r.0 r.1 h
range_stays Less word r h = high_falls r.0 r.1 (word -ℤ pos 1) h
range_stays AtMost word r h = high_falls r.0 r.1 word h
range_stays Greater word r h = low_rises r.0 r.1 (word +ℤ pos 1) h
range_stays AtLeast word r h = low_rises r.0 r.1 word h

slot_by : (b : Bool) (rel : Rel) (word : ℤ) (r : Range) → is_nonempty_range r ≡ false → is_nonempty_range (if b then narrow rel word r else r) ≡ false
slot_by true rel word r h = range_stays rel word r h
slot_by false rel word r h = h

and_false : (a : Bool) → (a && false) ≡ false
and_false true = refl
and_false false = refl

box_by : (fact : Fact) (k : ℕ) (r : Range) (box : Box) (b : Bool) → is_nonempty_range r ≡ b → (is_nonempty box ≡ false → is_nonempty (narrow_from fact (k + 1) box) ≡ false) →
    is_nonempty (r ∷ box) ≡ false → is_nonempty (narrow_from fact k (r ∷ box)) ≡ false
box_by fact k r box true e rest h =
    ap (λ (b : Bool). is_nonempty_range (narrow_slot fact k r) && b) (rest (ap (λ (b : Bool). b && is_nonempty box) (sym e) ∙ h)) ∙ and_false (is_nonempty_range (narrow_slot fact k r))
box_by fact k r box false e rest h =
    ap (λ (b : Bool). b && is_nonempty (narrow_from fact (k + 1) box)) (slot_by (k == fact.slot.0) fact.rel fact.word r e)

stays_empty_from : (fact : Fact) (k : ℕ) (box : Box) → is_nonempty box ≡ false → is_nonempty (narrow_from fact k box) ≡ false
stays_empty_from fact k [] h = h
stays_empty_from fact k (r ∷ box) h = box_by fact k r box (is_nonempty_range r) refl (stays_empty_from fact (k + 1) box) h

pub stays_empty : (fact : Fact) (box : Box) → is_nonempty box ≡ false → is_nonempty (narrowed fact box) ≡ false
stays_empty fact box h = stays_empty_from fact 1 box h

-- each box is empty
abbrev pub AreEmpty : List Box → Type 0
AreEmpty [] = ⊤
AreEmpty (box ∷ boxes) = (is_nonempty box ≡ false) × AreEmpty boxes

both_empty : (a b : List Box) → AreEmpty a → AreEmpty b → AreEmpty (a ++ b)
both_empty [] b h k = k
both_empty (x ∷ a) b h k = (h.0, both_empty a b h.1 k)

pick_false : {A : Type 0} (b : Bool) (x y : A) → b ≡ false → (if b then x else y) ≡ y
pick_false true x y e = absurd (cc)
pick_false false x y e = refl

pub none_left : (boxes : List Box) → AreEmpty boxes → filter is_nonempty boxes ≡ []
none_left [] h = refl
none_left (box ∷ boxes) h = pick_false (is_nonempty box) (box ∷ filter is_nonempty boxes) (filter is_nonempty boxes) h.0 ∙ none_left boxes h.1

true_empty : (fact : Option Fact) (box : Box) → is_nonempty box ≡ false → is_nonempty (where_true fact box) ≡ false
true_empty (Some fact) box h = stays_empty fact box h
true_empty None box h = h

false_empty : (fact : Option Fact) (box : Box) → is_nonempty box ≡ false → is_nonempty (where_false fact box) ≡ false
false_empty (Some fact) box h = stays_empty (negation fact) box h
false_empty None box h = h

failing_empty : (fact : Option Fact) (box : Box) → is_nonempty box ≡ false → AreEmpty (failing fact box)
failing_empty (Some fact) box h = (stays_empty (negation fact) box h, tt)
failing_empty None box h = tt

parts_empty : (fact : Option Fact) (box : Box) → is_nonempty box ≡ false → AreEmpty (parts fact box)
parts_empty (Some fact) box h = (stays_empty fact box h, (stays_empty (negation fact) box h, tt))
parts_empty None box h = tt

cap_by : (b : Bool) (fact : Fact) (box : Box) → is_nonempty box ≡ false → AreEmpty (if b then narrowed fact box ∷ [] else [])
cap_by true fact box h = (stays_empty fact box h, tt)
cap_by false fact box h = tt

cap_empty : (fixed : ℕ → Bool) (bound : CodeOperand) (most : ℤ) (box : Box) → is_nonempty box ≡ false → AreEmpty (over_cap fixed bound most box)
cap_empty fixed (Var x) most box h = cap_by (fixed x.0) (record { slot = x; rel = Greater; word = most }) box h
cap_empty fixed (Lit word) most box h = tt

simple_empty : (fixed : ℕ → Bool) (box : Box) (s : Simple) → is_nonempty box ≡ false → AreEmpty (simple_boxes fixed box s)
simple_empty fixed box (Set to from) h = tt
simple_empty fixed box (Arith to op left right site) h = tt
simple_empty fixed box (Ask to callee args) h = tt
simple_empty fixed box (Assert test site) h = failing_empty (fact_of fixed test) box h

mutual
  unfolding boxes_in

  in_empty : (fixed : ℕ → Bool) (box : Box) (s : Stmt) → is_nonempty box ≡ false → AreEmpty (boxes_in fixed box s)
  in_empty fixed box (plain simple) h = simple_empty fixed box simple h
  in_empty fixed box (help to callee args) h = tt
  in_empty fixed box (branch test first second) h =
      both_empty (parts (fact_of fixed test) box) (boxes_inside fixed (where_true (fact_of fixed test) box) first ++ boxes_inside fixed (where_false (fact_of fixed test) box) second)
      (parts_empty (fact_of fixed test) box h)
      (both_empty (boxes_inside fixed (where_true (fact_of fixed test) box) first) (boxes_inside fixed (where_false (fact_of fixed test) box) second)
      (inside_empty fixed (where_true (fact_of fixed test) box) first (true_empty (fact_of fixed test) box h))
      (inside_empty fixed (where_false (fact_of fixed test) box) second (false_empty (fact_of fixed test) box h)))
  in_empty fixed box (loop index slot bound most site body) h =
      both_empty (over_cap fixed bound most box) (boxes_inside fixed box body) (cap_empty fixed bound most box h) (inside_empty fixed box body h)

  pub inside_empty : (fixed : ℕ → Bool) (box : Box) (b : Block) → is_nonempty box ≡ false → AreEmpty (boxes_inside fixed box b)
  inside_empty fixed box [] h = tt
  inside_empty fixed box (s ⨾ rest) h = both_empty (boxes_in fixed box s) (boxes_inside fixed box rest) (in_empty fixed box s h) (inside_empty fixed box rest h)
