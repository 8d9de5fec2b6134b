-- The boxes of an entry lie in its parameters' ranges, and aren't empty.
use Rattle.std.proofs.Common.{◌≡◌, ◌⊎◌, ⊎_elim, inl, inr, ℕ, zero, suc, ◌+◌, ◌<◌, ◌≤◌, ◌==◌, ℤ, pos, ◌+ℤ◌, ◌-ℤ◌, ◌≤ℤ◌, int_le, Bool, true, false, not, ◌&&◌, Option, Some, None, List, [], ◌∷◌, ◌++◌, length, filter, take, if◌then◌else◌, refl, sym, ap, subst, ◌∙◌, arith, length-take}
use Rattle.std.specs.List.{AllZip, Contains}
use Rattle.std.specs.Ordering.{int_eq}
use Rattle.std.proofs.lemmas.Int.{ints, clamps}
use Rattle.std.proofs.lemmas.List.Elements.{Contains-append_cases}
use Rattle.vmv_tree.specs.declared.tree.Rel.{Rel}
use Rattle.vmv_tree.specs.declared.tree.Rel.TheVariants.{Equal, Unequal, Less, AtMost, Greater, AtLeast}
use Rattle.vmv_tree.specs.declared.tree.Param.{Param}
use Rattle.vmv_snapshot.specs.declared.code.CodeOperand.{CodeOperand}
use Rattle.vmv_snapshot.specs.declared.code.CodeOperand.TheVariants.{Lit, Var}
use Rattle.vmv_snapshot.specs.declared.code.Simple.{Simple}
use Rattle.vmv_snapshot.specs.declared.code.Simple.TheVariants.{Set, Arith, Ask, Assert}
use Rattle.vmv_snapshot.specs.Code.{Stmt, plain, help, branch, loop, Block, [], ◌⨾◌, Body}
use Rattle.vmv_snapshot.specs.Boxes.{Range}
use Rattle.vmv_back.specs.Firsts.{firsts}
use Rattle.vmv_back.specs.Facts.{fact_of, negation, narrow, narrow_from, narrowed}
use Rattle.vmv_back.specs.Boxes.{Box, where_true, where_false, failing, parts, over_cap, simple_boxes, boxes_in, boxes_inside, is_fixed, is_nonempty_range, is_nonempty, same_box, full_box, boxes_of}

none_in : {X : Type 0} (x : X) → Contains [] x → ⊥
none_in x (k, within, is) = absurd (omega (arith, within))

first_in : {X : Type 0} (x : X) (xs : List X) → Contains (x ∷ xs) x
first_in x xs = (0, omega arith, refl)

later_in : {X : Type 0} (y : X) (xs : List X) (x : X) → Contains xs x → Contains (y ∷ xs) x
later_in y xs x (k, within, is) = (suc k, omega (arith, within), is)

first_or_later : {X : Type 0} (y : X) (xs : List X) (x : X) → Contains (y ∷ xs) x → (y ≡ x) ⊎ Contains xs x
first_or_later y xs x (zero, within, is) = inl is
first_or_later y xs x (suc k, within, is) = inr (k, omega (arith, within), is)

-- no range of the box is empty, and each lies in that of its parameter
abbrev pub IsInside : List Param → Box → Type 0
IsInside params box = AllZip (λ p range. (p.lo ≤ℤ range.0) × (range.0 ≤ℤ range.1) × (range.1 ≤ℤ p.hi)) params box

-- q lies in r
abbrev IsPart : Range → Range → Type 0
IsPart r q = (r.0 ≤ℤ q.0) × (q.1 ≤ℤ r.1)

abbrev AreParts : Box → Box → Type 0
AreParts box part = AllZip IsPart box part

itself : (box : Box) → AreParts box box
itself [] = tt
itself (r ∷ box) = ((omega (arith, ints), omega (arith, ints)), itself box)

through : (a b c : Box) → AreParts a b → AreParts b c → AreParts a c
through [] [] [] f g = tt
through [] [] (r ∷ c) f g = absurd g
through [] (r ∷ b) c f g = absurd f
through (r ∷ a) [] c f g = absurd f
through (r ∷ a) (q ∷ b) [] f g = absurd g
through (r ∷ a) (q ∷ b) (p ∷ c) f g =
    let x = f.0 in let y = g.0 in ((omega (arith, ints, x.0, y.0), omega (arith, ints, x.1, y.1)), through a b c f.1 g.1)

narrow_part : (rel : Rel) (word : ℤ) (r : Range) → IsPart r (narrow rel word r)
narrow_part Equal word r = (omega (arith, ints, clamps), omega (arith, ints, clamps))
narrow_part Unequal word r = by (int_eq word r.0) (int_eq word r.1)
  where
    by : (a b : Bool) → IsPart r (if a then (r.0 +ℤ pos 1, r.1) else (if b then (r.0, r.1 -ℤ pos 1) else (r.0, r.1)))
    by true b = (omega (arith, ints), omega (arith, ints))
    by false true = (omega (arith, ints), omega (arith, ints))
    by false false = (omega (arith, ints), omega (arith, ints))
narrow_part Less word r = (omega (arith, ints), omega (arith, ints, clamps))
narrow_part AtMost word r = (omega (arith, ints), omega (arith, ints, clamps))
narrow_part Greater word r = (omega (arith, ints, clamps), omega (arith, ints))
narrow_part AtLeast word r = (omega (arith, ints, clamps), omega (arith, ints))

narrow_from_part : (fact : _) (k : ℕ) (box : Box) → AreParts box (narrow_from fact k box)
narrow_from_part fact k [] = tt
narrow_from_part fact k (r ∷ box) = (by (k == fact.slot.0), narrow_from_part fact (k + 1) box)
  where
    by : (a : Bool) → IsPart r (if a then narrow fact.rel fact.word r else r)
    by true = narrow_part fact.rel fact.word r
    by false = (omega (arith, ints), omega (arith, ints))

narrowed_part : (fact : _) (box : Box) → AreParts box (narrowed fact box)
narrowed_part fact box = narrow_from_part fact 1 box

-- each of these lies in the box
abbrev AllIn : Box → List Box → Type 0
AllIn box found = (b : Box) → Contains found b → AreParts box b

none_found : (box : Box) → AllIn box []
none_found box b there = absurd (none_in b there)

one_found : (box part : Box) (found : List Box) → AreParts box part → AllIn box found → AllIn box (part ∷ found)
one_found box part found inside rest b there = ⊎_elim (λ (e : part ≡ b). subst (AreParts box) e inside) (λ (later : Contains found b). rest b later) (first_or_later part found b there)

both_found : (box : Box) (found more : List Box) → AllIn box found → AllIn box more → AllIn box (found ++ more)
both_found box found more one two b there = ⊎_elim (λ (h : Contains found b). one b h) (λ (h : Contains more b). two b h) (Contains-append_cases found more b there)

further_in : (box part : Box) (found : List Box) → AreParts box part → AllIn part found → AllIn box found
further_in box part found inside rest b there = through box part b inside (rest b there)

failing_in : (fact : Option _) (box : Box) → AllIn box (failing fact box)
failing_in (Some fact) box = one_found box (narrowed (negation fact) box) [] (narrowed_part (negation fact) box) (none_found box)
failing_in None box = none_found box

parts_in : (fact : Option _) (box : Box) → AllIn box (parts fact box)
parts_in (Some fact) box =
    one_found box (narrowed fact box) (narrowed (negation fact) box ∷ []) (narrowed_part fact box)
    (one_found box (narrowed (negation fact) box) [] (narrowed_part (negation fact) box) (none_found box))
parts_in None box = none_found box

true_part : (fact : Option _) (box : Box) → AreParts box (where_true fact box)
true_part (Some fact) box = narrowed_part fact box
true_part None box = itself box

false_part : (fact : Option _) (box : Box) → AreParts box (where_false fact box)
false_part (Some fact) box = narrowed_part (negation fact) box
false_part None box = itself box

over_cap_in : (fixed : ℕ → Bool) (bound : CodeOperand) (most : ℤ) (box : Box) → AllIn box (over_cap fixed bound most box)
over_cap_in fixed (Var x) most box = by (fixed x.0)
  where
    by : (a : Bool) → AllIn box (if a then narrowed (record { slot = x; rel = Greater; word = most }) box ∷ [] else [])
    by true = one_found box (narrowed (record { slot = x; rel = Greater; word = most }) box) [] (narrowed_part (record { slot = x; rel = Greater; word = most }) box) (none_found box)
    by false = none_found box
over_cap_in fixed (Lit word) most box = none_found box

simple_in : (fixed : ℕ → Bool) (box : Box) (simple : Simple) → AllIn box (simple_boxes fixed box simple)
simple_in fixed box (Set to from) = none_found box
simple_in fixed box (Arith to op left right site) = none_found box
simple_in fixed box (Ask to callee args) = none_found box
simple_in fixed box (Assert test site) = failing_in (fact_of fixed test) box

mutual
  unfolding boxes_in boxes_inside

  stmt_in : (fixed : ℕ → Bool) (box : Box) (s : Stmt) → AllIn box (boxes_in fixed box s)
  stmt_in fixed box (plain simple) = simple_in fixed box simple
  stmt_in fixed box (help to callee args) = none_found box
  stmt_in fixed box (branch test first second) =
      let fact = fact_of fixed test in
      let one = where_true fact box in
      let other = where_false fact box in
      both_found box (parts fact box) (boxes_inside fixed one first ++ boxes_inside fixed other second) (parts_in fact box)
      (both_found box (boxes_inside fixed one first) (boxes_inside fixed other second)
      (further_in box one (boxes_inside fixed one first) (true_part fact box) (block_in fixed one first))
      (further_in box other (boxes_inside fixed other second) (false_part fact box) (block_in fixed other second)))
  stmt_in fixed box (loop index slot bound most site body) =
      both_found box (over_cap fixed bound most box) (boxes_inside fixed box body) (over_cap_in fixed bound most box) (block_in fixed box body)

  block_in : (fixed : ℕ → Bool) (box : Box) (block : Block) → AllIn box (boxes_inside fixed box block)
  block_in fixed box [] = none_found box
  block_in fixed box (s ⨾ rest) = both_found box (boxes_in fixed box s) (boxes_inside fixed box rest) (stmt_in fixed box s) (block_in fixed box rest)

in_filter : {A : Type 0} (p : A → Bool) (xs : List A) (x : A) → Contains (filter p xs) x → Contains xs x × (p x ≡ true)
in_filter p [] x there = absurd (none_in x there)
in_filter p (y ∷ xs) x there = by (p y) refl there (in_filter p xs x)
  where
    by : (b : Bool) → p y ≡ b → Contains (if b then y ∷ filter p xs else filter p xs) x → (Contains (filter p xs) x → Contains xs x × (p x ≡ true)) → Contains (y ∷ xs) x × (p x ≡ true)
    by true e h rest =
        ⊎_elim (λ (same : y ≡ x). (subst (Contains (y ∷ xs)) same (first_in y xs), ap p (sym same) ∙ e))
        (λ (later : Contains (filter p xs) x). let more = rest later in (later_in y xs x more.0, more.1)) (first_or_later y (filter p xs) x h)
    by false e h rest = let more = rest h in (later_in y xs x more.0, more.1)

in_firsts : {A : Type 0} (same : A → A → Bool) (xs : List A) (x : A) → Contains (firsts same xs) x → Contains xs x
in_firsts same [] x there = absurd (none_in x there)
in_firsts same (y ∷ xs) x there =
    ⊎_elim (λ (e : y ≡ x). subst (Contains (y ∷ xs)) e (first_in y xs))
    (λ (later : Contains (filter (λ z. not (same y z)) (firsts same xs)) x). later_in y xs x (in_firsts same xs x (in_filter (λ z. not (same y z)) (firsts same xs) x later).0))
    (first_or_later y (filter (λ z. not (same y z)) (firsts same xs)) x there)

pub in_take : {A : Type 0} (n : ℕ) (xs : List A) (x : A) → Contains (take n xs) x → Contains xs x
in_take zero xs x there = absurd (none_in x there)
in_take (suc n) [] x there = absurd (none_in x there)
in_take (suc n) (y ∷ xs) x there =
    ⊎_elim (λ (e : y ≡ x). subst (Contains (y ∷ xs)) e (first_in y xs)) (λ (later : Contains (take n xs) x). later_in y xs x (in_take n xs x later)) (first_or_later y (take n xs) x there)

both_true : (a b : Bool) → (a && b) ≡ true → (a ≡ true) × (b ≡ true)
both_true true b e = (refl, e)
both_true false b e = absurd (cc)

le_of : (x y : ℤ) → int_le x y ≡ true → x ≤ℤ y
le_of x y e = grind (arith, ints)

fits : (params : List Param) (box : Box) → AreParts (full_box params) box → is_nonempty box ≡ true → IsInside params box
fits [] [] inside some = tt
fits [] (r ∷ box) inside some = absurd inside
fits (p ∷ params) [] inside some = absurd inside
fits (p ∷ params) (r ∷ box) inside some =
    let one = both_true (is_nonempty_range r) (is_nonempty box) some in
    ((inside.0.0, le_of r.0 r.1 one.0, inside.0.1), fits params box inside.1 one.1)

-- each box of an entry lies in its parameters' ranges
pub boxes_fit : (params : List Param) (body : Body) (box : Box) → Contains (boxes_of params body) box → IsInside params box
boxes_fit params body box there =
    let full = full_box params in
    let inner = boxes_inside (is_fixed (length params) body.block) full body.block in
    let kept = in_filter is_nonempty (full ∷ inner) box (in_firsts same_box (filter is_nonempty (full ∷ inner)) box (in_take 16 (firsts same_box (filter is_nonempty (full ∷ inner))) box there)) in
    fits params box (one_found full full inner (itself full) (block_in (is_fixed (length params) body.block) full body.block) box kept.0) kept.1

pub few_boxes : (params : List Param) (body : Body) → length (boxes_of params body) ≤ 16
few_boxes params body =
    let all = firsts same_box (filter is_nonempty (full_box params ∷ boxes_inside (is_fixed (length params) body.block) (full_box params) body.block)) in
    let cut = length-take 16 all in
    omega (arith, cut)

-- the whole ranges lie in themselves
pub full_fits : (params : List Param) → is_nonempty (full_box params) ≡ true → IsInside params (full_box params)
full_fits params some = fits params (full_box params) (itself (full_box params)) some
