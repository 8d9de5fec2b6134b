-- Ranges and boxes that are narrowed.
use Rattle.std.proofs.Common.{◌≡◌, ℕ, zero, suc, ◌+◌, ◌<◌, ◌≤◌, ℤ, pos, ◌-ℤ◌, ◌≤ℤ◌, int_le, int_lt, Bool, true, false, ◌&&◌, IsTrue, IsFalse, FitsSigned, w64, to_z, of_z, List, [], ◌∷◌, ◌++◌, length, get_or, drop, refl, sym, ap, subst, ◌∙◌, arith, add-one, drop-cons, append_assoc, append-nil}
use Rattle.std.specs.List.{list_all}
use Rattle.std.specs.Int.{w128, int_min}
use Rattle.std.proofs.lemmas.Int.{ints, to_z-of_z}
use Rattle.std.proofs.lemmas.List.{drop_all}
use Rattle.vmv_tree.specs.declared.tree.Rel.{Rel}
use Rattle.vmv_tree.specs.declared.tree.Rel.TheVariants.{Less}
use Rattle.vmv_snapshot.specs.Boxes.{Range}
use Rattle.vmv_back.specs.declared.fact.Fact.{Fact}
use Rattle.vmv_back.specs.Facts.{narrow, narrow_slot, narrow_from}
use Rattle.vmv_back.specs.Boxes.{is_nonempty_range, is_nonempty}

word_between : (lo least greatest hi : ℤ) → FitsSigned w64 lo → FitsSigned w64 hi → lo ≤ℤ least → least ≤ℤ greatest → greatest ≤ℤ hi → FitsSigned w64 least
word_between lo least greatest hi a b f g h = grind (arith, ints)

word_below : (lo least greatest hi : ℤ) → FitsSigned w64 lo → FitsSigned w64 hi → lo ≤ℤ least → least ≤ℤ greatest → greatest ≤ℤ hi → FitsSigned w64 greatest
word_below lo least greatest hi a b f g h = grind (arith, ints)

wide : (n : ℤ) → FitsSigned w64 n → FitsSigned w128 n
wide n f = grind (arith, ints)

cast_back : (n : ℤ) → FitsSigned w64 n → to_z w64 (of_z w64 (to_z w128 (of_z w128 n))) ≡ n
cast_back n f = ap (λ (m : ℤ). to_z w64 (of_z w64 m)) (to_z-of_z w128 n (wide n f)) ∙ to_z-of_z w64 n f

pub narrow_is : (lo hi least greatest : ℤ) (r : Range) → FitsSigned w64 lo → FitsSigned w64 hi → FitsSigned w128 least → FitsSigned w128 greatest → lo ≤ℤ least → greatest ≤ℤ hi → least ≡ r.0 → greatest ≡ r.1 →
    int_lt (to_z w128 (of_z w128 greatest)) (to_z w128 (of_z w128 least)) ≡ false →
    ◌≡◌ {A = Range} (to_z w64 (of_z w64 (to_z w128 (of_z w128 least))), to_z w64 (of_z w64 (to_z w128 (of_z w128 greatest)))) r × IsTrue (is_nonempty_range r)
narrow_is lo hi least greatest r a b m n f g e k order =
    let h : least ≤ℤ greatest = ordered greatest least ((λ i. int_lt (sym (to_z-of_z w128 greatest n) i) (sym (to_z-of_z w128 least m) i)) ∙ order) in
    let one = cast_back least (word_between lo least greatest hi a b f h g) ∙ e in
    let two = cast_back greatest (word_below lo least greatest hi a b f h g) ∙ k in
    (λ i. (one i, two i), nonempty r.0 r.1 (subst (λ (n : ℤ). n ≤ℤ r.1) e (subst (λ (n : ℤ). least ≤ℤ n) k h)))
  where
    nonempty : (x y : ℤ) → x ≤ℤ y → IsTrue (int_le x y)
    nonempty x y h = grind (arith, ints)

    ordered : (x y : ℤ) → int_lt x y ≡ false → y ≤ℤ x
    ordered x y h = grind (arith, ints)

both_true : (a b : Bool) → (a && b) ≡ true → (a ≡ true) × (b ≡ true)
both_true true b h = (refl, h)
both_true false b h = absurd (cc)

all_at : {A : Type 0} (p : A → Bool) (xs : List A) (i : ℕ) (d : A) → list_all p xs ≡ true → i < length xs → p (get_or xs i d) ≡ true
all_at p [] i d h l = absurd (omega (arith, l))
all_at p (x ∷ xs) zero d h l = (both_true (p x) (list_all p xs) h).0
all_at p (x ∷ xs) (suc i) d h l = all_at p xs i d (both_true (p x) (list_all p xs) h).1 (omega (arith, l))

pub range_at : (box : List Range) (i : ℕ) (r d : Range) → IsTrue (is_nonempty box) → i < length box → r ≡ get_or box i d → IsTrue (is_nonempty_range r)
range_at box i r d h l e = ap is_nonempty_range e ∙ all_at is_nonempty_range box i d h l

narrow_row : (fact : Fact) (box : List Range) (i : ℕ) (r d : Range) → i < length box → r ≡ get_or box i d →
    narrow_from fact (i + 1) (drop i box) ≡ narrow_slot fact (i + 1) r ∷ narrow_from fact (i + 1 + 1) (drop (i + 1) box)
narrow_row fact box i r d h e =
    let tail : drop i box ≡ r ∷ drop (i + 1) box = rw (add-one, drop-cons box i d, ← e) refl in
    ap (narrow_from fact (i + 1)) tail

-- one range more is narrowed
pub narrow_more : (fact : Fact) (box part more whole : List Range) (i : ℕ) (r q d : Range) → i < length box → r ≡ get_or box i d →
    part ++ narrow_from fact (i + 1) (drop i box) ≡ whole → q ≡ narrow_slot fact (i + 1) r → more ≡ part ++ q ∷ [] → more ++ narrow_from fact (i + 1 + 1) (drop (i + 1) box) ≡ whole
narrow_more fact box part more whole i r q d h e inv n m =
    let rest : List Range = narrow_from fact (i + 1 + 1) (drop (i + 1) box) in
    ap (λ (xs : List Range). xs ++ rest) m ∙ append_assoc part (q ∷ []) rest ∙ ap (λ (x : Range). part ++ x ∷ rest) n ∙ sym (ap (λ (xs : List Range). part ++ xs) (narrow_row fact box i r d h e)) ∙ inv

all_push : {A : Type 0} (p : A → Bool) (xs : List A) (x : A) → list_all p xs ≡ true → p x ≡ true → list_all p (xs ++ x ∷ []) ≡ true
all_push p [] x h e = ap (λ (b : Bool). b && true) e
all_push p (y ∷ xs) x h e =
    let parts = both_true (p y) (list_all p xs) h in
    ap (λ (b : Bool). b && list_all p (xs ++ x ∷ [])) parts.0 ∙ all_push p xs x parts.1 e

pub nonempty_more : (part more : List Range) (q r : Range) → IsTrue (is_nonempty part) → more ≡ part ++ q ∷ [] → q ≡ r → IsTrue (is_nonempty_range r) → IsTrue (is_nonempty more)
nonempty_more part more q r h m e n = ap is_nonempty m ∙ all_push is_nonempty_range part q h (ap is_nonempty_range e ∙ n)

none_at : {A : Type 0} (p : A → Bool) (xs : List A) (x : A) (rest : List A) → p x ≡ false → list_all p (xs ++ x ∷ rest) ≡ false
none_at p [] x rest e = ap (λ (b : Bool). b && list_all p rest) e
none_at p (y ∷ xs) x rest e = ap (λ (b : Bool). p y && b) (none_at p xs x rest e) ∙ and_false (p y)
  where
    and_false : (b : Bool) → (b && false) ≡ false
    and_false true = refl
    and_false false = refl

pub narrow_none : (fact : Fact) (box part whole : List Range) (i : ℕ) (r d : Range) → i < length box → r ≡ get_or box i d →
    part ++ narrow_from fact (i + 1) (drop i box) ≡ whole → IsFalse (is_nonempty_range (narrow_slot fact (i + 1) r)) → IsFalse (is_nonempty whole)
narrow_none fact box part whole i r d h e inv n =
    ap is_nonempty (sym inv ∙ ap (λ (xs : List Range). part ++ xs) (narrow_row fact box i r d h e))
    ∙ none_at is_nonempty_range part (narrow_slot fact (i + 1) r) (narrow_from fact (i + 1 + 1) (drop (i + 1) box)) n

pub narrow_end : (fact : Fact) (box part whole : List Range) (i : ℕ) → length box ≤ i → part ++ narrow_from fact (i + 1) (drop i box) ≡ whole → part ≡ whole
narrow_end fact box part whole i h inv =
    sym (append-nil part) ∙ ap (λ (xs : List Range). part ++ narrow_from fact (i + 1) xs) (sym (drop_all i box h)) ∙ inv

-- the greatest value below the word
pub below_word : (m g w word : ℤ) (rel : Rel) (range : Range) → FitsSigned w64 range.1 → FitsSigned w64 word → rel ≡ Less → g ≡ to_z w64 (of_z w64 range.1) → w ≡ to_z w64 (of_z w64 word) →
    m ≡ int_min (to_z w128 (of_z w128 g)) (to_z w128 (of_z w128 (w -ℤ pos 1))) → m ≡ (narrow rel word range).1
below_word m g w word rel range a b is e f h =
    let one : to_z w128 (of_z w128 g) ≡ range.1 = ap (λ (n : ℤ). to_z w128 (of_z w128 n)) (e ∙ to_z-of_z w64 range.1 a) ∙ to_z-of_z w128 range.1 (wide range.1 a) in
    let two : to_z w128 (of_z w128 (w -ℤ pos 1)) ≡ word -ℤ pos 1 =
    ap (λ (n : ℤ). to_z w128 (of_z w128 (n -ℤ pos 1))) (f ∙ to_z-of_z w64 word b) ∙ to_z-of_z w128 (word -ℤ pos 1) (wide_before word b) in
    h ∙ (λ i. int_min (one i) (two i)) ∙ ap (λ (r : Rel). (narrow r word range).1) (sym is)
  where
    wide_before : (n : ℤ) → FitsSigned w64 n → FitsSigned w128 (n -ℤ pos 1)
    wide_before n f = grind (arith, ints)
