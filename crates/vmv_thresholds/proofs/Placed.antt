-- The place of a procedure among the items.
use Rattle.std.proofs.Common.{◌≡◌, ℕ, zero, suc, ◌+◌, ◌<◌, ◌≤◌, true, false, Some, List, [], ◌∷◌, ◌++◌, length, take, drop, get_or, slice_get, refl, sym, ap, arith, ◌∙◌, length-append}
use Rattle.std.proofs.lemmas.List.{map-append}
use Rattle.std.proofs.lemmas.Option.{slice_get_read, slice_get-map}
use Rattle.std.specs.Option.{option_map}
use Rattle.vmv_tree.specs.declared.tree.Item as declared
use Rattle.vmv_tree.specs.View.{item_of, items_of}
use Rattle.vmv_tree.specs.Tree.{Item, outside, helper, entry}
use Rattle.vmv_snapshot.specs.Procs.{procs}
use Rattle.vmv_snapshot.proofs.Zips.{take_one_more}
use Rattle.vmv_snapshot.proofs.Lookups.{past_first}
use Rattle.vmv_snapshot.proofs.Build.{procs-append}
use Rattle.vmv_thresholds.specs.Collect.{is_proc, IsPlaceOf}
use Rattle.vmv_thresholds.proofs.Lists.{drop_at, drop_end}

-- the first item alone

procs_of_proc : (x : Item) (xs : List Item) → is_proc x ≡ true → procs (x ∷ xs) ≡ x ∷ procs xs
procs_of_proc (outside f arity) xs e = absurd (cc)
procs_of_proc (helper f params body) xs e = refl
procs_of_proc (entry f params body) xs e = refl

procs_of_other : (x : Item) (xs : List Item) → is_proc x ≡ false → procs (x ∷ xs) ≡ procs xs
procs_of_other (outside f arity) xs e = refl
procs_of_other (helper f params body) xs e = absurd (cc)
procs_of_other (entry f params body) xs e = absurd (cc)

-- so many procedures more are looked for from this place on
pub record Sought (items : List declared.Item) (number before place : ℕ) : Type 0 where
  pub rest : slice_get (procs (items_of (drop place items))) before ≡ slice_get (procs (items_of items)) number
  pub counted : length (procs (items_of (take place items))) + before ≡ number

pub sought_start : (items : List declared.Item) (number : ℕ) → Sought items number number 0
sought_start items number = record { rest = refl; counted = omega arith }

-- the procedures before the next place
procs_before : (items : List declared.Item) (place : ℕ) (x : declared.Item) → place < length items → x ≡ get_or items place x →
    procs (items_of (take (place + 1) items)) ≡ procs (items_of (take place items)) ++ procs (item_of x ∷ [])
procs_before items place x h is =
    ap (λ (l : List declared.Item). procs (items_of l)) (take_one_more items place x h is)
    ∙ (ap procs (map-append item_of (take place items) (x ∷ [])) ∙ procs-append (items_of (take place items)) (item_of x ∷ []))

procs_from : (items : List declared.Item) (place : ℕ) (x : declared.Item) → place < length items → x ≡ get_or items place x →
    procs (items_of (drop place items)) ≡ procs (item_of x ∷ items_of (drop (place + 1) items))
procs_from items place x h is = ap (λ (l : List declared.Item). procs (items_of l)) (drop_at items place x h is)

pub sought_past : (items : List declared.Item) (number before place : ℕ) (x : declared.Item) → place < length items → x ≡ get_or items place x → is_proc (item_of x) ≡ false →
    Sought items number before place → Sought items number before (place + 1)
sought_past items number before place x h is other s =
    let front : procs (items_of (take (place + 1) items)) ≡ procs (items_of (take place items)) ++ [] =
    procs_before items place x h is ∙ ap (λ (l : List Item). procs (items_of (take place items)) ++ l) (procs_of_other (item_of x) [] other) in
    let same : length (procs (items_of (take (place + 1) items))) ≡ length (procs (items_of (take place items)) ++ []) = ap (λ (l : List Item). length l) front in
    let old = s.counted in
    record {
      rest = ap (λ (l : List Item). slice_get l before) (sym (procs_from items place x h is ∙ procs_of_other (item_of x) (items_of (drop (place + 1) items)) other)) ∙ s.rest;
      counted = omega (arith, same, length-append (procs (items_of (take place items))) [], old);
    }

pub sought_less : (items : List declared.Item) (number before less place : ℕ) (x : declared.Item) → place < length items → x ≡ get_or items place x → is_proc (item_of x) ≡ true →
    before ≡ 1 + less → Sought items number before place → Sought items number less (place + 1)
sought_less items number before less place x h is this one s =
    let front : procs (items_of (take (place + 1) items)) ≡ procs (items_of (take place items)) ++ item_of x ∷ [] =
    procs_before items place x h is ∙ ap (λ (l : List Item). procs (items_of (take place items)) ++ l) (procs_of_proc (item_of x) [] this) in
    let same : length (procs (items_of (take (place + 1) items))) ≡ length (procs (items_of (take place items)) ++ item_of x ∷ []) = ap (λ (l : List Item). length l) front in
    let old = s.counted in
    record {
      rest = sym (past_first (item_of x) (procs (items_of (drop (place + 1) items))) before less one)
          ∙ (ap (λ (l : List Item). slice_get l before) (sym (procs_from items place x h is ∙ procs_of_proc (item_of x) (items_of (drop (place + 1) items)) this)) ∙ s.rest);
      counted = omega (arith, same, length-append (procs (items_of (take place items))) (item_of x ∷ []), old, one);
    }

pub take_items : (items : List declared.Item) (place : ℕ) → take place (items_of items) ≡ items_of (take place items)
take_items [] zero = refl
take_items [] (suc place) = refl
take_items (x ∷ items) zero = refl
take_items (x ∷ items) (suc place) = ap (λ (l : List Item). item_of x ∷ l) (take_items items place)

pub sought_here : (items : List declared.Item) (number place : ℕ) (x : declared.Item) → place < length items → x ≡ get_or items place x → is_proc (item_of x) ≡ true →
    Sought items number 0 place → (item : Item) → slice_get (procs (items_of items)) number ≡ Some item → IsPlaceOf (items_of items) number item place
sought_here items number place x h is this s item at =
    let first : slice_get (procs (items_of (drop place items))) 0 ≡ Some (item_of x) =
    ap (λ (l : List Item). slice_get l 0) (procs_from items place x h is ∙ procs_of_proc (item_of x) (items_of (drop (place + 1) items)) this) in
    let stands : slice_get items place ≡ Some x = slice_get_read items (length items) place x refl h is in
    let count : length (procs (items_of (take place items))) ≡ number = omega (arith, s.counted) in
    record {
      stands = slice_get-map item_of items place ∙ (ap (option_map item_of) stands ∙ (sym first ∙ (s.rest ∙ at)));
      before = ap (λ (l : List Item). length (procs l)) (take_items items place) ∙ count;
    }

nowhere : (n : ℕ) (y : Item) → slice_get [] n ≡ Some y → ⊥
nowhere n y e = absurd (cc)

pub item_at : (xs : List Item) (n : ℕ) → n < length xs → (item : Item) × (slice_get xs n ≡ Some item)
item_at [] n h = absurd (omega (arith, h))
item_at (x ∷ xs) zero h = (x, refl)
item_at (x ∷ xs) (suc n) h = item_at xs n (omega (arith, h))

pub sought_none : (items : List declared.Item) (number before place : ℕ) → length items ≤ place → Sought items number before place → number < length (procs (items_of items)) → ⊥
sought_none items number before place h s within =
    let at = item_at (procs (items_of items)) number within in
    let none : slice_get (procs (items_of (drop place items))) before ≡ slice_get [] before = ap (λ (l : List declared.Item). slice_get (procs (items_of l)) before) (drop_end items place h) in
    let some : slice_get (procs (items_of (drop place items))) before ≡ Some at.0 = s.rest ∙ at.1 in
    nowhere before at.0 (sym none ∙ some)

some_same : {X : Type 0} {x y : X} → Some x ≡ Some y → x ≡ y
some_same e = cc

-- what stands at the place
pub stands_there : (items : List declared.Item) (number place : ℕ) (x : declared.Item) (item : Item) → place < length items → x ≡ get_or items place x → IsPlaceOf (items_of items) number item place → item_of x ≡ item
stands_there items number place x item h is p =
    let stands : slice_get items place ≡ Some x = slice_get_read items (length items) place x refl h is in
    some_same (sym (slice_get-map item_of items place ∙ ap (option_map item_of) stands) ∙ p.stands)
