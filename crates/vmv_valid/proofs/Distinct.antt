-- How many different numbers there are depends on which they are alone.
use Rattle.std.proofs.Common.{◌≡◌, ℕ, ◌+◌, ◌<◌, ◌≤◌, ◌==◌, ℤ, pos, int_lt, Bool, true, false, cond, ◌||◌, List, [], ◌∷◌, length, get_or, refl, sym, ap, ◌∙◌, subst, arith, add-one, is_lt, int_cmp, IsPermutation, Less, Greater, Equal, if◌then◌else◌}
use Rattle.std.specs.Bool.{⊤}
use Rattle.std.specs.List.{list_any}
use Rattle.std.specs.Ordering.{int_eq}
use Rattle.std.proofs.lemmas.Int.{ints}
use Rattle.std.proofs.lemmas.Cmp.{int_eq_equiv}
use Rattle.std.proofs.lemmas.List.Sorted.{list_any-IsPermutation}
use Rattle.std.proofs.lemmas.Bool.Decides.{Decides-int_eq}
use Rattle.vmv_tree.specs.Limits.{distinct}
use Rattle.vmv_valid.specs.Numbers.{changes}

-- a number is one of these
abbrev pub holds : ℤ → List ℤ → Bool
holds n xs = list_any (int_eq n) xs

-- the same numbers
abbrev pub HaveSame : List ℤ → List ℤ → Type 0
HaveSame xs ys = (n : ℤ) → holds n xs ≡ holds n ys

abbrev one_if : Bool → ℕ
one_if b = if b then 1 else 0

-- these without a number
abbrev leaving : ℤ → List ℤ → List ℤ
leaving n [] = []
leaving n (m ∷ rest) = if int_eq n m then leaving n rest else m ∷ leaving n rest

same_of : (n m : ℤ) → int_eq n m ≡ true → n ≡ m
same_of n m e = (Decides-int_eq n m).0 e

itself : (n : ℤ) → int_eq n n ≡ true
itself n = (Decides-int_eq n n).1 refl

-- a number that was left out is gone

leaving_none_by : (n m : ℤ) (rest : List ℤ) (t : Bool) → int_eq n m ≡ t → holds n (leaving n rest) ≡ false
    → holds n (if t then leaving n rest else m ∷ leaving n rest) ≡ false
leaving_none_by n m rest true e none = none
leaving_none_by n m rest false e none = ap (λ (b : Bool). b || holds n (leaving n rest)) e ∙ none

leaving_none : (n : ℤ) (ys : List ℤ) → holds n (leaving n ys) ≡ false
leaving_none n [] = refl
leaving_none n (m ∷ rest) = leaving_none_by n m rest (int_eq n m) refl (leaving_none n rest)

-- the others stay

leaving_other_by : (q n m : ℤ) (rest : List ℤ) (t : Bool) → int_eq n m ≡ t → int_eq q n ≡ false → holds q (leaving n rest) ≡ holds q rest
    → holds q (if t then leaving n rest else m ∷ leaving n rest) ≡ (int_eq q m || holds q rest)
leaving_other_by q n m rest true e differ kept =
    let no : int_eq q m ≡ false = subst (λ (x : ℤ). int_eq q x ≡ false) (same_of n m e) differ in
    kept ∙ sym (ap (λ (b : Bool). b || holds q rest) no)
leaving_other_by q n m rest false e differ kept = ap (λ (b : Bool). int_eq q m || b) kept

leaving_other : (q n : ℤ) (ys : List ℤ) → int_eq q n ≡ false → holds q (leaving n ys) ≡ holds q ys
leaving_other q n [] differ = refl
leaving_other q n (m ∷ rest) differ = leaving_other_by q n m rest (int_eq n m) refl differ (leaving_other q n rest differ)

-- a number counts once

count_held : (b : Bool) (r l : ℕ) → r ≡ one_if b + l → (if b then r else 1 + r) ≡ 1 + l
count_held true r l e = omega arith
count_held false r l e = omega arith

count_other : (b a : Bool) (r l : ℕ) → r ≡ one_if b + l → (if a then r else 1 + r) ≡ one_if b + (if a then l else 1 + l)
count_other true true r l e = omega arith
count_other true false r l e = omega arith
count_other false true r l e = omega arith
count_other false false r l e = omega arith

distinct_leaving_by : (n m : ℤ) (rest : List ℤ) (t : Bool) → int_eq n m ≡ t → distinct rest ≡ one_if (holds n rest) + distinct (leaving n rest)
    → distinct (m ∷ rest) ≡ one_if (t || holds n rest) + distinct (if t then leaving n rest else m ∷ leaving n rest)
distinct_leaving_by n m rest true e h =
    subst (λ (x : ℤ). distinct (x ∷ rest) ≡ 1 + distinct (leaving n rest)) (same_of n m e) (count_held (holds n rest) (distinct rest) (distinct (leaving n rest)) h)
distinct_leaving_by n m rest false e h =
    let differ : int_eq m n ≡ false = int_eq_equiv.symm m n ∙ e in
    subst (λ (b : Bool). distinct (m ∷ rest) ≡ one_if (holds n rest) + (if b then distinct (leaving n rest) else 1 + distinct (leaving n rest)))
    (sym (leaving_other m n rest differ))
    (count_other (holds n rest) (holds m rest) (distinct rest) (distinct (leaving n rest)) h)

distinct_leaving : (n : ℤ) (ys : List ℤ) → distinct ys ≡ one_if (holds n ys) + distinct (leaving n ys)
distinct_leaving n [] = refl
distinct_leaving n (m ∷ rest) = distinct_leaving_by n m rest (int_eq n m) refl (distinct_leaving n rest)

-- the same numbers are equally many different ones

none_held : (ys : List ℤ) → HaveSame [] ys → 0 ≡ distinct ys
none_held [] same = refl
none_held (m ∷ rest) same =
    let first : (int_eq m m || holds m rest) ≡ true = ap (λ (b : Bool). b || holds m rest) (itself m) in
    let none : false ≡ (int_eq m m || holds m rest) = same m in
    absurd (cc)

rest_same_by : (n x : ℤ) (rest ys : List ℤ) (t : Bool) → int_eq n x ≡ t → holds x rest ≡ true → (int_eq n x || holds n rest) ≡ holds n ys → holds n rest ≡ holds n ys
rest_same_by n x rest ys true e held same =
    let here : holds n rest ≡ true = subst (λ (z : ℤ). holds z rest ≡ true) (sym (same_of n x e)) held in
    here ∙ (sym (ap (λ (b : Bool). b || holds n rest) e) ∙ same)
rest_same_by n x rest ys false e held same = sym (ap (λ (b : Bool). b || holds n rest) e) ∙ same

rest_left_by : (n x : ℤ) (rest ys : List ℤ) (t : Bool) → int_eq n x ≡ t → holds x rest ≡ false → (int_eq n x || holds n rest) ≡ holds n ys → holds n rest ≡ holds n (leaving x ys)
rest_left_by n x rest ys true e held same =
    let here : holds n rest ≡ false = subst (λ (z : ℤ). holds z rest ≡ false) (sym (same_of n x e)) held in
    let gone : holds n (leaving x ys) ≡ false = subst (λ (z : ℤ). holds z (leaving x ys) ≡ false) (sym (same_of n x e)) (leaving_none x ys) in
    here ∙ sym gone
rest_left_by n x rest ys false e held same = sym (ap (λ (b : Bool). b || holds n rest) e) ∙ (same ∙ sym (leaving_other n x ys e))

distinct_same_by : (x : ℤ) (rest ys : List ℤ) (b : Bool) → holds x rest ≡ b → HaveSame (x ∷ rest) ys → ((zs : List ℤ) → HaveSame rest zs → distinct rest ≡ distinct zs)
    → (if b then distinct rest else 1 + distinct rest) ≡ distinct ys
distinct_same_by x rest ys true held same ih =
    ih ys (λ (n : ℤ). rest_same_by n x rest ys (int_eq n x) refl held (same n))
distinct_same_by x rest ys false held same ih =
    let fewer = ih (leaving x ys) (λ (n : ℤ). rest_left_by n x rest ys (int_eq n x) refl held (same n)) in
    let first : (int_eq x x || holds x rest) ≡ true = ap (λ (b : Bool). b || holds x rest) (itself x) in
    let here : holds x ys ≡ true = sym (same x) ∙ first in
    let once : distinct ys ≡ 1 + distinct (leaving x ys) = distinct_leaving x ys ∙ ap (λ (b : Bool). one_if b + distinct (leaving x ys)) here in
    omega (arith, fewer, once)

pub distinct_same : (xs ys : List ℤ) → HaveSame xs ys → distinct xs ≡ distinct ys
distinct_same [] ys same = none_held ys same
distinct_same (x ∷ rest) ys same = distinct_same_by x rest ys (holds x rest) refl same (λ (zs : List ℤ) (h : HaveSame rest zs). distinct_same rest zs h)

-- numbers in order

-- none of these is below the one before it
abbrev pub Ascends : ℤ → List ℤ → Type 0
Ascends n [] = ⊤
Ascends n (m ∷ rest) = (int_lt m n ≡ false) × Ascends m rest

differs_above : (q n m : ℤ) → int_lt q n ≡ true → int_lt m n ≡ false → int_eq q m ≡ false
differs_above q n m below up = grind (arith, ints)

below_above : (q n m : ℤ) → int_lt q n ≡ true → int_lt m n ≡ false → int_lt q m ≡ true
below_above q n m below up = grind (arith, ints)

above_other : (n m : ℤ) → int_eq n m ≡ false → int_lt m n ≡ false → int_lt n m ≡ true
above_other n m differ up = grind (arith, ints)

below_none : (q n : ℤ) (xs : List ℤ) → int_lt q n ≡ true → Ascends n xs → holds q xs ≡ false
below_none q n [] below up = refl
below_none q n (m ∷ rest) below up =
    ap (λ (b : Bool). b || holds q rest) (differs_above q n m below up.0) ∙ below_none q m rest (below_above q n m below up.0) up.1

sorted_by : (n m : ℤ) (rest : List ℤ) (t : Bool) (d c : ℕ) → int_eq n m ≡ t → int_lt m n ≡ false → Ascends m rest → d ≡ 1 + c
    → (if t || holds n rest then d else 1 + d) ≡ 1 + (if t then c else 1 + c)
sorted_by n m rest true d c e up more h = h
sorted_by n m rest false d c e up more h =
    let none : holds n rest ≡ false = below_none n m rest (above_other n m e up) more in
    ap (λ (b : Bool). if b then d else 1 + d) none ∙ ap (λ (x : ℕ). 1 + x) h

pub distinct-sorted : (n : ℤ) (xs : List ℤ) → Ascends n xs → distinct (n ∷ xs) ≡ 1 + changes n xs
distinct-sorted n [] up = refl
distinct-sorted n (m ∷ rest) up =
    sorted_by n m rest (int_eq n m) (distinct (m ∷ rest)) (changes m rest) refl up.0 up.1 (distinct-sorted m rest up.1)

lt_by : (a b : Bool) → is_lt (cond a Less (cond b Greater Equal)) ≡ a
lt_by true b = refl
lt_by false true = refl
lt_by false false = refl

next_get : (x : ℤ) (xs : List ℤ) (k : ℕ) (d : ℤ) → get_or (x ∷ xs) (k + 1) d ≡ get_or xs k d
next_get x xs k d = ap (λ (j : ℕ). get_or (x ∷ xs) j d) (add-one k)

-- what a sort ensures
abbrev pub Sorted : List ℤ → Type 0
Sorted xs = (k : ℕ) (d : ℤ) → 0 ≤ k → k + 1 < length xs → is_lt (int_cmp (get_or xs (k + 1) d) (get_or xs k d)) ≡ false

tail_sorted : (n : ℤ) (xs : List ℤ) → Sorted (n ∷ xs) → Sorted xs
tail_sorted n xs sorted k d zero below =
    ap (λ (a : ℤ). is_lt (int_cmp a (get_or xs k d))) (sym (next_get n xs (k + 1) d))
    ∙ (ap (λ (b : ℤ). is_lt (int_cmp (get_or (n ∷ xs) (k + 1 + 1) d) b)) (sym (next_get n xs k d))
    ∙ sorted (k + 1) d (omega arith) (omega arith))

ascends : (n : ℤ) (xs : List ℤ) → Sorted (n ∷ xs) → Ascends n xs
ascends n [] sorted = tt
ascends n (m ∷ rest) sorted =
    (sym (lt_by (int_lt m n) (int_lt n m)) ∙ sorted 0 n (omega arith) (omega arith), ascends m rest (tail_sorted n (m ∷ rest) sorted))

counted_in : (numbers : List ℤ) (count : ℕ) → Sorted numbers → (length numbers == 0) ≡ false → count ≡ changes (get_or numbers 0 (pos 0)) numbers → 1 + count ≡ distinct numbers
counted_in [] count sorted some is = absurd (cc)
counted_in (n ∷ rest) count sorted some is =
    let whole : changes n (n ∷ rest) ≡ changes n rest = ap (λ (b : Bool). if b then changes n rest else 1 + changes n rest) (itself n) in
    let count_is : count ≡ changes n rest = is ∙ whole in
    ap (λ (x : ℕ). 1 + x) count_is ∙ sym (distinct-sorted n rest (ascends n rest sorted))

-- numbers that are put in order: the changes in them count the different ones
pub counted : (before numbers : List ℤ) (count : ℕ) → IsPermutation before numbers → Sorted numbers → (length numbers == 0) ≡ false → count ≡ changes (get_or numbers 0 (pos 0)) numbers
    → 1 + count ≡ distinct before
counted before numbers count moved sorted some is =
    counted_in numbers count sorted some is
    ∙ sym (distinct_same before numbers (λ (n : ℤ). list_any-IsPermutation (int_eq n) before numbers moved))
