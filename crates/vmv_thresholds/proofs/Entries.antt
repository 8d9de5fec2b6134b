-- The parts of a program around an entry.
use Rattle.std.proofs.Common.{◌≡◌, ℕ, zero, suc, ◌+◌, ◌<◌, Bool, true, Some, List, [], ◌∷◌, ◌++◌, length, map, take, drop, reverse, slice_get, get_or, ℤ, ◌↔◌, refl, sym, ap, subst, arith, ◌∙◌, if◌then◌else◌}
use Rattle.std.specs.List.{Contains}
use Rattle.std.proofs.lemmas.Option.{slice_get_within}
use Rattle.vmv_tree.specs.declared.name.Name.{Name}
use Rattle.vmv_tree.specs.declared.tree.Item as declared
use Rattle.vmv_tree.specs.declared.tree.Item.TheVariants.{Outside, Helper, Entry}
use Rattle.vmv_tree.specs.declared.tree.Body as declared_body
use Rattle.vmv_tree.specs.Limits.{entry_numbers}
use Rattle.vmv_tree.specs.View.{item_of, items_of, body_of}
use Rattle.vmv_tree.specs.declared.tree.Param.{Param}
use Rattle.vmv_tree.specs.Tree.{Item, Body, outside, helper, entry}
use Rattle.vmv_snapshot.specs.Procs.{procs, is_entry}
use Rattle.vmv_cert.specs.Thresholds.{IsEntryOf}
use Rattle.vmv_valid.specs.Same.{HaveSame}
use Rattle.vmv_thresholds.specs.Collect.{is_proc, IsPlaceOf, IsNumberOf}
use Rattle.vmv_snapshot.proofs.Links.{map_at}
use Rattle.vmv_thresholds.proofs.Placed.{stands_there, take_items}

abbrev one_if : Bool → ℕ
one_if b = if b then 1 else 0

length-procs : (x : Item) (xs : List Item) → length (procs (x ∷ xs)) ≡ one_if (is_proc x) + length (procs xs)
length-procs (outside f arity) xs = omega arith
length-procs (helper f params body) xs = omega arith
length-procs (entry f params body) xs = omega arith

first_same : {X : Type 0} {x y : X} {xs ys : List X} → x ∷ xs ≡ y ∷ ys → x ≡ y
first_same e = cc

rest_same : {X : Type 0} {x y : X} {xs ys : List X} → x ∷ xs ≡ y ∷ ys → xs ≡ ys
rest_same e = cc

no_more : (x : Item) (xs : List Item) → is_proc x ≡ true → 0 ≡ length (procs (x ∷ xs)) → ⊥
no_more (outside f arity) xs e h = absurd (cc)
no_more (helper f params body) xs e h = absurd (omega (arith, h))
no_more (entry f params body) xs e h = absurd (omega (arith, h))

one_less : (x y : Item) (xs ys : List Item) → x ≡ y → length (procs (x ∷ xs)) ≡ length (procs (y ∷ ys)) → length (procs xs) ≡ length (procs ys)
one_less x y xs ys e h =
    let flag : one_if (is_proc x) ≡ one_if (is_proc y) = ap (λ (z : Item). one_if (is_proc z)) e in
    omega (arith, flag, h, length-procs x xs, length-procs y ys)

-- one procedure has so many before it
pub one_place : (xs ys : List Item) (x y : Item) (after behind : List Item) → xs ++ x ∷ after ≡ ys ++ y ∷ behind → is_proc x ≡ true → is_proc y ≡ true →
    length (procs xs) ≡ length (procs ys) → (xs ≡ ys) × (x ≡ y)
one_place [] [] x y after behind e p q h = (refl, first_same e)
one_place [] (z ∷ ys) x y after behind e p q h = absurd (no_more z ys (ap is_proc (sym (first_same e)) ∙ p) h)
one_place (z ∷ xs) [] x y after behind e p q h = absurd (no_more z xs (ap is_proc (first_same e) ∙ q) (sym h))
one_place (z ∷ xs) (w ∷ ys) x y after behind e p q h =
    let more = one_place xs ys x y after behind (rest_same e) p q (one_less z w xs ys (first_same e) h) in
    let head : z ≡ w = first_same e in
    ((λ i. head i ∷ more.0 i), more.1)

same_params : (f g : Name) (ps qs : List Param) (a b : Body) → entry f ps a ≡ entry g qs b → ps ≡ qs
same_params f g ps qs a b e = cc

same_body : (f g : Name) (ps qs : List Param) (a b : Body) → entry f ps a ≡ entry g qs b → a ≡ b
same_body f g ps qs a b e = cc

-- the parts around the entry of a number
pub one_entry : (program : List Item) (proc : ℕ) (above others : List Item) (ps qs : List Param) (a b : Body) → IsEntryOf program proc above ps a → IsEntryOf program proc others qs b →
    (above ≡ others) × (ps ≡ qs) × (a ≡ b)
one_entry program proc above others ps qs a b one two =
    let same = one_place one.before two.before (entry one.name ps a) (entry two.name qs b) one.after two.after (sym one.parts ∙ two.parts) refl refl (one.place ∙ sym two.place) in
    (one.nearest ∙ (ap (λ (l : List Item). reverse l) same.0 ∙ sym two.nearest), same_params one.name two.name ps qs a b same.1, same_body one.name two.name ps qs a b same.1)

-- an item stands between those before it and those behind it
parted : (xs : List Item) (n : ℕ) (x : Item) → slice_get xs n ≡ Some x → xs ≡ take n xs ++ x ∷ drop (suc n) xs
parted [] n x e = absurd (cc)
parted (y ∷ xs) zero x e = let same : y ≡ x = cc in ap (λ (z : Item). z ∷ xs) same
parted (y ∷ xs) (suc n) x e = ap (λ (l : List Item). y ∷ l) (parted xs n x e)

pub entry_placed : (program : List Item) (proc place : ℕ) (name : Name) (params : List Param) (body : Body) → IsPlaceOf program proc (entry name params body) place →
    IsEntryOf program proc (reverse (take place program)) params body
entry_placed program proc place name params body p =
    record { before = take place program; name = name; after = drop (suc place) program; parts = parted program place (entry name params body) p.stands; place = p.before; nearest = refl }

-- the numbers of the entry at a place
pub numbers_there : (program : List Item) (proc place : ℕ) (name : Name) (params : List Param) (body : Body) (found : List ℤ) → IsPlaceOf program proc (entry name params body) place →
    HaveSame found (entry_numbers (reverse (take place program)) params body) → (c : ℤ) → Contains found c ↔ IsNumberOf program proc c
numbers_there program proc place name params body found p same c =
    let is = entry_placed program proc place name params body p in (
      λ h. (reverse (take place program), params, body, is, (same c).0 h),
      λ (above, ps, b, other, h).
          let e = one_entry program proc above (reverse (take place program)) ps params b body other is in
          (same c).1 (subst (λ (l : List ℤ). Contains l c) (λ i. entry_numbers (e.0 i) (e.1 i) (e.2 i)) h),
    )

-- a procedure that is told to be an entry
pub entry_within : (program : List Item) (proc : ℕ) → slice_get (map is_entry (procs program)) proc ≡ Some true → proc < length (procs program)
entry_within program proc h = let at = map_at is_entry (procs program) proc true h in slice_get_within (procs program) proc at.0 at.1

-- the place of the procedure of this number
abbrev pub HasPlace : List declared.Item → ℕ → ℕ → Type 0
HasPlace items proc place = (item : Item) → slice_get (procs (items_of items)) proc ≡ Some item → IsPlaceOf (items_of items) proc item place

flag_there : (items all : List declared.Item) (proc place : ℕ) (x : declared.Item) → items ≡ all → slice_get (map is_entry (procs (items_of all))) proc ≡ Some true →
    HasPlace items proc place → place < length items → x ≡ get_or items place x → is_entry (item_of x) ≡ true
flag_there items all proc place x e h p within is =
    let here : slice_get (map is_entry (procs (items_of items))) proc ≡ Some true = subst (λ (l : List declared.Item). slice_get (map is_entry (procs (items_of l))) proc ≡ Some true) (sym e) h in
    let at = map_at is_entry (procs (items_of items)) proc true here in
    ap is_entry (stands_there items proc place x at.0 within is (p at.0 at.1)) ∙ at.2

pub entry_told : (items all : List declared.Item) (proc place : ℕ) (x : declared.Item) (name : Name) (params : List Param) (body : declared_body.Body) (found : List ℤ) → items ≡ all →
    slice_get (map is_entry (procs (items_of all))) proc ≡ Some true → HasPlace items proc place → place < length items → x ≡ get_or items place x → x ≡ Entry name params body →
    HaveSame found (entry_numbers (reverse (items_of (take place items))) params (body_of body)) → (c : ℤ) → Contains found c ↔ IsNumberOf (items_of all) proc c
entry_told items all proc place x name params body found e h p within is form same =
    let here : slice_get (map is_entry (procs (items_of items))) proc ≡ Some true = subst (λ (l : List declared.Item). slice_get (map is_entry (procs (items_of l))) proc ≡ Some true) (sym e) h in
    let at = map_at is_entry (procs (items_of items)) proc true here in
    let stands : entry name params (body_of body) ≡ at.0 = ap item_of (sym form) ∙ stands_there items proc place x at.0 within is (p at.0 at.1) in
    let placed : IsPlaceOf (items_of items) proc (entry name params (body_of body)) place = subst (λ (y : Item). IsPlaceOf (items_of items) proc y place) (sym stands) (p at.0 at.1) in
    let numbers : HaveSame found (entry_numbers (reverse (take place (items_of items))) params (body_of body)) =
    subst (λ (l : List Item). HaveSame found (entry_numbers (reverse l) params (body_of body))) (sym (take_items items place)) same in
    subst (λ (l : List declared.Item). (c : ℤ) → Contains found c ↔ IsNumberOf (items_of l) proc c) e
    (numbers_there (items_of items) proc place name params (body_of body) found placed numbers)

entry_form : (x : declared.Item) → is_entry (item_of x) ≡ true → ((name : Name) (params : List Param) (body : declared_body.Body) → x ≡ Entry name params body → ⊥) → ⊥
entry_form (Outside f arity) e none = absurd (cc)
entry_form (Helper f params body) e none = absurd (cc)
entry_form (Entry f params body) e none = none f params body refl

pub entry_not_other : (items all : List declared.Item) (proc place : ℕ) (x : declared.Item) → items ≡ all → slice_get (map is_entry (procs (items_of all))) proc ≡ Some true →
    HasPlace items proc place → place < length items → x ≡ get_or items place x → ((name : Name) (params : List Param) (body : declared_body.Body) → x ≡ Entry name params body → ⊥) → ⊥
entry_not_other items all proc place x e h p within is none = entry_form x (flag_there items all proc place x e h p within is) none

-- the item at the place is the procedure
pub proc_there : (items all : List declared.Item) (proc place : ℕ) (x : declared.Item) (item : Item) → items ≡ all → HasPlace items proc place → place < length items → x ≡ get_or items place x →
    slice_get (procs (items_of all)) proc ≡ Some item → item_of x ≡ item
proc_there items all proc place x item e p within is at =
    stands_there items proc place x item within is (p item (subst (λ (l : List declared.Item). slice_get (procs (items_of l)) proc ≡ Some item) (sym e) at))
