-- The boxes that are kept over a statement, by its form, and over a block.
use Rattle.std.proofs.Common.{◌≡◌, ℕ, ◌+◌, ◌<◌, ◌≤◌, ℤ, Bool, true, false, Option, Some, None, List, [], ◌∷◌, ◌++◌, length, get_or, drop, filter, IsTrue, IsFalse, refl, sym, ap, ◌∙◌, add-one, drop-cons, if◌then◌else◌}
use Rattle.std.proofs.lemmas.List.{drop_all}
use Rattle.std.proofs.lemmas.List.Elements.{filter-append}
use Rattle.vmv_snapshot.specs.declared.code.Simple.{Simple}
use Rattle.vmv_snapshot.specs.declared.code.Slot.{Slot}
use Rattle.vmv_snapshot.specs.declared.code.ProcId.{ProcId}
use Rattle.vmv_snapshot.specs.declared.code.CodeOperand.{CodeOperand}
use Rattle.vmv_snapshot.specs.declared.code.CodeTest.{CodeTest}
use Rattle.vmv_snapshot.specs.declared.code.CodeRepeat.{CodeRepeat}
use Rattle.vmv_snapshot.specs.declared.code.CodeStmt as declared
use Rattle.vmv_snapshot.specs.declared.code.CodeStmt.{Plain, Help, If, Repeat}
use Rattle.vmv_snapshot.specs.Code.{Stmt, plain, help, branch, loop, Block, [], ◌⨾◌}
use Rattle.vmv_snapshot.specs.View.{stmt_of, block_of, stmt_of-plain, stmt_of-help, stmt_of-if, stmt_of-repeat}
use Rattle.vmv_back.specs.declared.fact.Fact.{Fact}
use Rattle.vmv_back.specs.Facts.{fact_of, negation, narrowed}
use Rattle.vmv_back.specs.Boxes.{Box, where_true, where_false, parts, over_cap, simple_boxes, boxes_in, boxes_inside, is_nonempty, same_box}
use Rattle.vmv_back.specs.Kept.{keep, keep_all, with_boxes}
use Rattle.vmv_back.proofs.Keeping.{keep_all-append}
use Rattle.vmv_back.proofs.Emptied.{AreEmpty, none_left, inside_empty}

pub with_both : (kept xs ys : List Box) → with_boxes kept (xs ++ ys) ≡ with_boxes (with_boxes kept xs) ys
with_both kept xs ys = ap (keep_all 16 same_box kept) (filter-append is_nonempty xs ys) ∙ keep_all-append 16 same_box kept (filter is_nonempty xs) (filter is_nonempty ys)

pick_true : {A : Type 0} (b : Bool) (x y : A) → b ≡ true → (if b then x else y) ≡ x
pick_true true x y e = refl
pick_true false x y e = absurd (cc)

pick_false : {A : Type 0} (b : Bool) (x y : A) → b ≡ false → (if b then x else y) ≡ y
pick_false true x y e = absurd (cc)
pick_false false x y e = refl

pub with_one : (kept new : List Box) (box part : Box) → part ≡ box → IsTrue (is_nonempty box) → new ≡ keep 16 same_box kept part → new ≡ with_boxes kept (box ∷ [])
with_one kept new box part e h k =
    k ∙ ap (keep 16 same_box kept) e ∙ ap (keep_all 16 same_box kept) (sym (pick_true (is_nonempty box) (box ∷ []) [] h))

pub with_empties : (kept boxes : List Box) → AreEmpty boxes → kept ≡ with_boxes kept boxes
with_empties kept boxes h = ap (keep_all 16 same_box kept) (sym (none_left boxes h))

pub with_none : (kept : List Box) (box : Box) → IsFalse (is_nonempty box) → kept ≡ with_boxes kept (box ∷ [])
with_none kept box h = with_empties kept (box ∷ []) (h, tt)

pub with_part_empty : (kept : List Box) (fixed : ℕ → Bool) (box : Box) (b : Block) → IsFalse (is_nonempty box) → kept ≡ with_boxes kept (boxes_inside fixed box b)
with_part_empty kept fixed box b h = with_empties kept (boxes_inside fixed box b) (inside_empty fixed box b h)

boxes_in-plain : (fixed : ℕ → Bool) (box : Box) (simple : Simple) → boxes_in fixed box (plain simple) ≡ simple_boxes fixed box simple
unfolding boxes_in
boxes_in-plain fixed box simple = refl

boxes_in-help : (fixed : ℕ → Bool) (box : Box) (to : Slot) (callee : ProcId) (args : List CodeOperand) → boxes_in fixed box (help to callee args) ≡ []
unfolding boxes_in
boxes_in-help fixed box to callee args = refl

boxes_in-branch : (fixed : ℕ → Bool) (box : Box) (test : CodeTest) (first second : Block) → boxes_in fixed box (branch test first second)
    ≡ parts (fact_of fixed test) box ++ (boxes_inside fixed (where_true (fact_of fixed test) box) first ++ boxes_inside fixed (where_false (fact_of fixed test) box) second)
unfolding boxes_in
boxes_in-branch fixed box test first second = refl

boxes_in-loop : (fixed : ℕ → Bool) (box : Box) (index slot : Slot) (bound : CodeOperand) (most : ℤ) (site : ℕ) (body : Block) →
    boxes_in fixed box (loop index slot bound most site body) ≡ over_cap fixed bound most box ++ boxes_inside fixed box body
unfolding boxes_in
boxes_in-loop fixed box index slot bound most site body = refl

boxes_inside-row : (fixed : ℕ → Bool) (box : Box) (s : Stmt) (rest : Block) → boxes_inside fixed box (s ⨾ rest) ≡ boxes_in fixed box s ++ boxes_inside fixed box rest
unfolding boxes_in
boxes_inside-row fixed box s rest = refl

boxes_inside-none : (fixed : ℕ → Bool) (box : Box) → boxes_inside fixed box [] ≡ []
unfolding boxes_in
boxes_inside-none fixed box = refl

module _ (old new : List Box) (fixed : ℕ → Bool) (box : Box) (s : declared.CodeStmt) where
  found_as : (boxes : List Box) → boxes_in fixed box (stmt_of s) ≡ boxes → new ≡ with_boxes old boxes → new ≡ with_boxes old (boxes_in fixed box (stmt_of s))
  found_as boxes e k = k ∙ ap (with_boxes old) (sym e)

  pub found_in_plain : (simple : Simple) → s ≡ Plain simple → new ≡ with_boxes old (simple_boxes fixed box simple) → new ≡ with_boxes old (boxes_in fixed box (stmt_of s))
  found_in_plain simple is k =
      found_as (simple_boxes fixed box simple) (ap (λ t. boxes_in fixed box (stmt_of t)) is ∙ ap (boxes_in fixed box) (stmt_of-plain simple) ∙ boxes_in-plain fixed box simple) k

  pub found_in_help : (to : Slot) (callee : ProcId) (args : List CodeOperand) → s ≡ Help to callee args → new ≡ old → new ≡ with_boxes old (boxes_in fixed box (stmt_of s))
  found_in_help to callee args is k =
      found_as [] (ap (λ t. boxes_in fixed box (stmt_of t)) is ∙ ap (boxes_in fixed box) (stmt_of-help to callee args) ∙ boxes_in-help fixed box to callee args) k

  if_boxes : (test : CodeTest) (first second : List declared.CodeStmt) (fact : Option Fact) → s ≡ If test first second → fact_of fixed test ≡ fact →
      boxes_in fixed box (stmt_of s) ≡ parts fact box ++ (boxes_inside fixed (where_true fact box) (block_of first) ++ boxes_inside fixed (where_false fact box) (block_of second))
  if_boxes test first second fact is e =
      ap (λ t. boxes_in fixed box (stmt_of t)) is ∙ ap (boxes_in fixed box) (stmt_of-if test first second) ∙ boxes_in-branch fixed box test (block_of first) (block_of second)
      ∙ ap (λ (f : Option Fact). parts f box ++ (boxes_inside fixed (where_true f box) (block_of first) ++ boxes_inside fixed (where_false f box) (block_of second))) e

  pub found_in_parts : (test : CodeTest) (first second one two : List declared.CodeStmt) (fact other : Fact) (a b c : List Box) → s ≡ If test first second → one ≡ first → two ≡ second →
      fact_of fixed test ≡ Some fact → other ≡ negation fact → a ≡ with_boxes old (narrowed fact box ∷ []) → b ≡ with_boxes a (narrowed other box ∷ []) →
      c ≡ with_boxes b (boxes_inside fixed (narrowed fact box) (block_of one)) → new ≡ with_boxes c (boxes_inside fixed (narrowed other box) (block_of two)) →
      new ≡ with_boxes old (boxes_in fixed box (stmt_of s))
  found_in_parts test first second one two fact other a b c is e f told neg h k l m =
      let inside_one : List Box = boxes_inside fixed (narrowed fact box) (block_of first) in
      let inside_two : List Box = boxes_inside fixed (narrowed (negation fact) box) (block_of second) in
      let kept_two : b ≡ with_boxes old (parts (Some fact) box) =
      k ∙ (λ i. with_boxes (h i) (narrowed (neg i) box ∷ [])) ∙ sym (with_both old (narrowed fact box ∷ []) (narrowed (negation fact) box ∷ [])) in
      found_as (parts (Some fact) box ++ (inside_one ++ inside_two)) (if_boxes test first second (Some fact) is told)
      (m ∙ (λ i. with_boxes (l i) (boxes_inside fixed (narrowed (neg i) box) (block_of (f i))))
      ∙ (λ i. with_boxes (with_boxes (kept_two i) (boxes_inside fixed (narrowed fact box) (block_of (e i)))) inside_two)
      ∙ sym (with_both (with_boxes old (parts (Some fact) box)) inside_one inside_two)
      ∙ sym (with_both old (parts (Some fact) box) (inside_one ++ inside_two)))

  pub found_in_both : (test : CodeTest) (first second one two : List declared.CodeStmt) (a : List Box) → s ≡ If test first second → one ≡ first → two ≡ second → fact_of fixed test ≡ None →
      a ≡ with_boxes old (boxes_inside fixed box (block_of one)) → new ≡ with_boxes a (boxes_inside fixed box (block_of two)) → new ≡ with_boxes old (boxes_in fixed box (stmt_of s))
  found_in_both test first second one two a is e f told h k =
      found_as (boxes_inside fixed box (block_of first) ++ boxes_inside fixed box (block_of second)) (if_boxes test first second None is told)
      (k ∙ (λ i. with_boxes (h i) (boxes_inside fixed box (block_of (f i)))) ∙ (λ i. with_boxes (with_boxes old (boxes_inside fixed box (block_of (e i)))) (boxes_inside fixed box (block_of second)))
      ∙ sym (with_both old (boxes_inside fixed box (block_of first)) (boxes_inside fixed box (block_of second))))

  pub found_in_loop : (repeat : CodeRepeat) (body : List declared.CodeStmt) (a : List Box) → s ≡ Repeat repeat → body ≡ repeat.body →
      a ≡ with_boxes old (over_cap fixed repeat.bound repeat.cap box) → new ≡ with_boxes a (boxes_inside fixed box (block_of body)) → new ≡ with_boxes old (boxes_in fixed box (stmt_of s))
  found_in_loop repeat body a is e h k =
      found_as (over_cap fixed repeat.bound repeat.cap box ++ boxes_inside fixed box (block_of repeat.body))
      (ap (λ t. boxes_in fixed box (stmt_of t)) is ∙ ap (boxes_in fixed box) (stmt_of-repeat repeat.index repeat.slot repeat.bound repeat.cap repeat.site repeat.body)
      ∙ boxes_in-loop fixed box repeat.index repeat.slot repeat.bound repeat.cap repeat.site (block_of repeat.body))
      (k ∙ (λ i. with_boxes (h i) (boxes_inside fixed box (block_of (e i)))) ∙ sym (with_both old (over_cap fixed repeat.bound repeat.cap box) (boxes_inside fixed box (block_of repeat.body))))

-- from one statement of a block to the next
pub found_next : (start kept more : List Box) (fixed : ℕ → Bool) (box : Box) (block : List declared.CodeStmt) (i : ℕ) (s : declared.CodeStmt) → i < length block → s ≡ get_or block i s →
    with_boxes kept (boxes_inside fixed box (block_of (drop i block))) ≡ start → more ≡ with_boxes kept (boxes_in fixed box (stmt_of s)) →
    with_boxes more (boxes_inside fixed box (block_of (drop (i + 1) block))) ≡ start
found_next start kept more fixed box block i s h is inv e =
    let tail : drop i block ≡ s ∷ drop (i + 1) block = rw (add-one, drop-cons block i s, ← is) refl in
    ap (λ (k : List Box). with_boxes k (boxes_inside fixed box (block_of (drop (i + 1) block)))) e
    ∙ sym (with_both kept (boxes_in fixed box (stmt_of s)) (boxes_inside fixed box (block_of (drop (i + 1) block))))
    ∙ ap (with_boxes kept) (sym (boxes_inside-row fixed box (stmt_of s) (block_of (drop (i + 1) block))))
    ∙ ap (λ b. with_boxes kept (boxes_inside fixed box (block_of b))) (sym tail)
    ∙ inv

pub found_end : (start kept : List Box) (fixed : ℕ → Bool) (box : Box) (block : List declared.CodeStmt) (i : ℕ) → length block ≤ i →
    with_boxes kept (boxes_inside fixed box (block_of (drop i block))) ≡ start → kept ≡ start
found_end start kept fixed box block i h inv =
    ap (with_boxes kept) (sym (ap (λ b. boxes_inside fixed box (block_of b)) (drop_all i block h) ∙ boxes_inside-none fixed box)) ∙ inv

pub cap_of_other : (kept : List Box) (fixed : ℕ → Bool) (bound : CodeOperand) (most : ℤ) (box : Box) → over_cap fixed bound most box ≡ [] → kept ≡ with_boxes kept (over_cap fixed bound most box)
cap_of_other kept fixed bound most box e = ap (with_boxes kept) (sym e)
