-- Lists of which one element is changed, left out or put behind the others.
use Rattle.std.proofs.Common.{◌≡◌, ℕ, zero, suc, ◌+◌, ◌≤◌, ◌<◌, Bool, true, false, cond, ◌||◌, List, [], ◌∷◌, ◌++◌, map, length, find, count_by, not, nat_lt, get_or, Option, Some, None, IfSome, Result, Ok, Err, OnOk, slice_set, slice_index_or, ap, sym, ◌∙◌, arith, refl, zero-add, add-zero}
use Rattle.std.specs.List.{AllByRecursion, list_any, position, position_or_len, remove}
use Rattle.std.proofs.Math.ListN.{set}
use borrow.Author.Tests.{ltb-true, ltb-false}
use Rattle.std.proofs.lemmas.List.Sums.{sum_by-append}
use Rattle.vmv_keeper.specs.declared.reply.VersionRow.{VersionRow}
use Rattle.vmv_keeper.specs.Formed.{Rises, AreNumbered, FirstIs, BeginOpened, AreLater, IsLater}
use Rattle.vmv_keeper.specs.Changes.{changed, without}
use Rattle.vmv_keeper.proofs.FormedReads.{count_by-cons}

-- what holds of each element

pub All-push : {X : Type 0} (P : X → Type 0) (xs : List X) (x : X) → AllByRecursion P xs → P x → AllByRecursion P (xs ++ x ∷ [])
All-push P [] x all p = (p, tt)
All-push P (y ∷ ys) x all p = (all.0, All-push P ys x all.1 p)

pub All-weaken : {X : Type 0} (P Q : X → Type 0) → ((x : X) → P x → Q x) → (xs : List X) → AllByRecursion P xs → AllByRecursion Q xs
All-weaken P Q w [] all = tt
All-weaken P Q w (x ∷ xs) all = (w x all.0, All-weaken P Q w xs all.1)

all_changed_step : {X : Type 0} (P : X → Type 0) (f : X → X) (x : X) (xs later : List X) (found : Option X) (b : Bool)
    → P x → AllByRecursion P xs → IfSome (cond b (Some x) found) (λ y. P (f y)) → (IfSome found (λ y. P (f y)) → AllByRecursion P later)
    → AllByRecursion P (cond b (f x ∷ xs) (x ∷ later))
all_changed_step P f x xs later found true p all h g = (h, all)
all_changed_step P f x xs later found false p all h g = (p, g h)

pub All-changed : {X : Type 0} (P : X → Type 0) (test : X → Bool) (f : X → X) (xs : List X)
    → AllByRecursion P xs → IfSome (find test xs) (λ x. P (f x)) → AllByRecursion P (changed test f xs)
All-changed P test f [] all h = tt
All-changed P test f (x ∷ xs) all h =
    all_changed_step P f x xs (changed test f xs) (find test xs) (test x) all.0 all.1 h (All-changed P test f xs all.1)

all_without_step : {X : Type 0} (P : X → Type 0) (x : X) (xs later : List X) (b : Bool)
    → P x → AllByRecursion P xs → AllByRecursion P later → AllByRecursion P (cond b xs (x ∷ later))
all_without_step P x xs later true p all w = all
all_without_step P x xs later false p all w = (p, w)

pub All-without : {X : Type 0} (P : X → Type 0) (test : X → Bool) (xs : List X) → AllByRecursion P xs → AllByRecursion P (without test xs)
All-without P test [] all = tt
All-without P test (x ∷ xs) all = all_without_step P x xs (without test xs) (test x) all.0 all.1 (All-without P test xs all.1)

-- lengths and counts

length_map_step : {X Y : Type 0} (f : X → Y) (x : X) (xs later : List X) (b : Bool)
    → length (map f later) ≤ length (map f xs) → length (map f (cond b xs (x ∷ later))) ≤ length (map f (x ∷ xs))
length_map_step f x xs later true h = omega arith
length_map_step f x xs later false h = omega arith

pub length_map-without : {X Y : Type 0} (f : X → Y) (test : X → Bool) (xs : List X) → length (map f (without test xs)) ≤ length (map f xs)
length_map-without f test [] = omega arith
length_map-without f test (x ∷ xs) = length_map_step f x xs (without test xs) (test x) (length_map-without f test xs)

pub length_map-push : {X Y : Type 0} (f : X → Y) (xs : List X) (x : X) → length (map f (xs ++ x ∷ [])) ≡ length (map f xs) + 1
length_map-push f [] x = omega arith
length_map-push f (y ∷ ys) x = let h = length_map-push f ys x in omega arith

pub length_map-same : {X Y : Type 0} (f : X → Y) (xs : List X) → length (map f xs) ≡ length xs
length_map-same f [] = refl
length_map-same f (y ∷ ys) = let h = length_map-same f ys in omega arith

count_changed_step : {X : Type 0} (p : X → Bool) (x y : X) (xs later : List X) (b : Bool)
    → p y ≡ p x → count_by p later ≡ count_by p xs → count_by p (cond b (y ∷ xs) (x ∷ later)) ≡ count_by p (x ∷ xs)
count_changed_step p x y xs later true e h = count_by-cons p y xs ∙ ap (λ v. cond v 1 0 + count_by p xs) e ∙ sym (count_by-cons p x xs)
count_changed_step p x y xs later false e h = count_by-cons p x later ∙ ap (λ n. cond (p x) 1 0 + n) h ∙ sym (count_by-cons p x xs)

pub count_by-changed : {X : Type 0} (p test : X → Bool) (f : X → X) → ((x : X) → p (f x) ≡ p x) → (xs : List X)
    → count_by p (changed test f xs) ≡ count_by p xs
count_by-changed p test f same [] = refl
count_by-changed p test f same (x ∷ xs) =
    count_changed_step p x (f x) xs (changed test f xs) (test x) (same x) (count_by-changed p test f same xs)

pub count_by-push : {X : Type 0} (p : X → Bool) (xs : List X) (x : X) → count_by p (xs ++ x ∷ []) ≡ count_by p xs + cond (p x) 1 0
count_by-push p xs x = sum_by-append (λ y. cond (p y) 1 0) xs (x ∷ []) ∙ ap (λ n. count_by p xs + n) (zero-add (cond (p x) 1 0))

few_step : (n k m : ℕ) (b : Bool) → n ≤ k → (b ≡ true → n < k) → m ≡ n + cond b 1 0 → m ≤ k
few_step n k m true small room e = let r = room refl in omega arith
few_step n k m false small room e = omega arith

-- one more element, of which there may be one more if it is counted
pub count_by-push_few : {X : Type 0} (p : X → Bool) (xs : List X) (x : X) (k : ℕ)
    → count_by p xs ≤ k → (p x ≡ true → count_by p xs < k) → count_by p (xs ++ x ∷ []) ≤ k
count_by-push_few p xs x k small room = few_step (count_by p xs) k _ (p x) small room (count_by-push p xs x)

none_step : {X : Type 0} (p : X → Bool) (x : X) (xs : List X) (found : Option X) (b : Bool)
    → p x ≡ b → cond b (Some x) found ≡ None → (found ≡ None → count_by p xs ≡ 0) → count_by p (x ∷ xs) ≡ 0
none_step p x xs found true e h g = absurd (cc h)
none_step p x xs found false e h g = count_by-cons p x xs ∙ ap (λ v. cond v 1 0 + count_by p xs) e ∙ zero-add (count_by p xs) ∙ g h

pub count_by-not_found : {X : Type 0} (p : X → Bool) (xs : List X) → find p xs ≡ None → count_by p xs ≡ 0
count_by-not_found p [] h = refl
count_by-not_found p (x ∷ xs) h = none_step p x xs (find p xs) (p x) refl h (count_by-not_found p xs)

any_step : {X : Type 0} (p : X → Bool) (x : X) (xs : List X) (any b : Bool)
    → p x ≡ b → (b || any) ≡ false → (any ≡ false → count_by p xs ≡ 0) → count_by p (x ∷ xs) ≡ 0
any_step p x xs any true e h g = absurd (cc h)
any_step p x xs any false e h g = count_by-cons p x xs ∙ ap (λ v. cond v 1 0 + count_by p xs) e ∙ zero-add (count_by p xs) ∙ g h

pub count_by-not_any : {X : Type 0} (p : X → Bool) (xs : List X) → list_any p xs ≡ false → count_by p xs ≡ 0
count_by-not_any p [] h = refl
count_by-not_any p (x ∷ xs) h = any_step p x xs (list_any p xs) (p x) refl h (count_by-not_any p xs)

-- numbers that rise

rises_weaken : (low high : ℕ) (ns : List ℕ) → low ≤ high → Rises high ns → Rises low ns
rises_weaken low high [] le h = tt
rises_weaken low high (n ∷ ns) le h = let at = h.0 in (omega arith, h.1)

rises_step : {X : Type 0} (f : X → ℕ) (low : ℕ) (x : X) (xs later : List X) (b : Bool)
    → low ≤ f x → Rises (f x + 1) (map f xs) → Rises (f x + 1) (map f later) → Rises low (map f (cond b xs (x ∷ later)))
rises_step f low x xs later true le h g = rises_weaken low (f x + 1) (map f xs) (omega arith) h
rises_step f low x xs later false le h g = (le, g)

pub Rises-without : {X : Type 0} (f : X → ℕ) (test : X → Bool) (low : ℕ) (xs : List X) → Rises low (map f xs) → Rises low (map f (without test xs))
Rises-without f test low [] h = tt
Rises-without f test low (x ∷ xs) h = rises_step f low x xs (without test xs) (test x) h.0 h.1 (Rises-without f test (f x + 1) xs h.1)

pub Rises-push : {X : Type 0} (f : X → ℕ) (low : ℕ) (xs : List X) (y : X)
    → Rises low (map f xs) → AllByRecursion (λ x. f x < f y) xs → low ≤ f y → Rises low (map f (xs ++ y ∷ []))
Rises-push f low [] y h below le = (le, tt)
Rises-push f low (x ∷ xs) y h below le = (h.0, Rises-push f (f x + 1) xs y h.1 below.1 (let b = below.0 in omega arith))

-- rows of versions

pub AreNumbered-push : {X : Type 0} (f : X → VersionRow) (n : ℕ) (xs : List X) (y : X)
    → AreNumbered n (map f xs) → (f y).number ≡ n + length xs → AreNumbered n (map f (xs ++ y ∷ []))
AreNumbered-push f n [] y h e = (e ∙ add-zero n, tt)
AreNumbered-push f n (x ∷ xs) y h e = (h.0, AreNumbered-push f (n + 1) xs y h.1 (omega arith))

pub BeginOpened-push : {X : Type 0} (f : X → VersionRow) (xs : List X) (y : X) → BeginOpened (map f xs) → BeginOpened (map f (xs ++ y ∷ []))
BeginOpened-push f [] y h = absurd h
BeginOpened-push f (x ∷ xs) y h = h

all_map_push : {X : Type 0} (f : X → VersionRow) (xs : List X) (y : X)
    → AllByRecursion IsLater (map f xs) → IsLater (f y) → AllByRecursion IsLater (map f (xs ++ y ∷ []))
all_map_push f [] y h e = (e, tt)
all_map_push f (x ∷ xs) y h e = (h.0, all_map_push f xs y h.1 e)

pub AreLater-push : {X : Type 0} (f : X → VersionRow) (xs : List X) (y : X) → AreLater (map f xs) → IsLater (f y) → AreLater (map f (xs ++ y ∷ []))
AreLater-push f [] y h e = tt
AreLater-push f (x ∷ xs) y h e = all_map_push f xs y h e

pub FirstIs-push : (owner : List ℕ) (xs : List (List ℕ)) (y : List ℕ) → FirstIs owner xs → FirstIs owner (xs ++ y ∷ [])
FirstIs-push owner [] y h = absurd h
FirstIs-push owner (x ∷ xs) y h = h

-- a change and an omission, by the place of the first element that passes

changed_at_step : {X : Type 0} (f : X → X) (d x : X) (xs later : List X) (n : ℕ) (b : Bool)
    → cond (not b) (1 + n) 0 < length (x ∷ xs) → (n < length xs → later ≡ set xs n (f (get_or xs n d)))
    → cond b (f x ∷ xs) (x ∷ later) ≡ set (x ∷ xs) (cond (not b) (1 + n) 0) (f (get_or (x ∷ xs) (cond (not b) (1 + n) 0) d))
changed_at_step f d x xs later n true h g = refl
changed_at_step f d x xs later n false h g =
    let e : 1 + n ≡ suc n = omega arith in
    let at : n < length xs = omega arith in
    rw e (ap (λ l. x ∷ l) (g at))

pub changed-at : {X : Type 0} (test : X → Bool) (f : X → X) (d : X) (xs : List X)
    → position_or_len test xs < length xs → changed test f xs ≡ set xs (position_or_len test xs) (f (get_or xs (position_or_len test xs) d))
changed-at test f d [] h = absurd (omega (arith, h))
changed-at test f d (x ∷ xs) h = changed_at_step f d x xs (changed test f xs) (position_or_len test xs) (test x) h (changed-at test f d xs)

changed_past_step : {X : Type 0} (f : X → X) (x : X) (xs later : List X) (n : ℕ) (b : Bool)
    → length (x ∷ xs) ≤ cond (not b) (1 + n) 0 → (length xs ≤ n → later ≡ xs) → cond b (f x ∷ xs) (x ∷ later) ≡ x ∷ xs
changed_past_step f x xs later n true h g = absurd (omega (arith, h))
changed_past_step f x xs later n false h g = ap (λ l. x ∷ l) (g (omega arith))

pub changed-past : {X : Type 0} (test : X → Bool) (f : X → X) (xs : List X) → length xs ≤ position_or_len test xs → changed test f xs ≡ xs
changed-past test f [] h = refl
changed-past test f (x ∷ xs) h = changed_past_step f x xs (changed test f xs) (position_or_len test xs) (test x) h (changed-past test f xs)

without_at_step : {X : Type 0} (x : X) (xs later : List X) (n : ℕ) (b : Bool)
    → cond (not b) (1 + n) 0 < length (x ∷ xs) → (n < length xs → later ≡ remove xs n)
    → cond b xs (x ∷ later) ≡ remove (x ∷ xs) (cond (not b) (1 + n) 0)
without_at_step x xs later n true h g = refl
without_at_step x xs later n false h g =
    let e : 1 + n ≡ suc n = omega arith in
    let at : n < length xs = omega arith in
    rw e (ap (λ l. x ∷ l) (g at))

pub without-at : {X : Type 0} (test : X → Bool) (xs : List X) → position_or_len test xs < length xs → without test xs ≡ remove xs (position_or_len test xs)
without-at test [] h = absurd (omega (arith, h))
without-at test (x ∷ xs) h = without_at_step x xs (without test xs) (position_or_len test xs) (test x) h (without-at test xs)

without_past_step : {X : Type 0} (x : X) (xs later : List X) (n : ℕ) (b : Bool)
    → length (x ∷ xs) ≤ cond (not b) (1 + n) 0 → (length xs ≤ n → later ≡ xs) → cond b xs (x ∷ later) ≡ x ∷ xs
without_past_step x xs later n true h g = absurd (omega (arith, h))
without_past_step x xs later n false h g = ap (λ l. x ∷ l) (g (omega arith))

pub without-past : {X : Type 0} (test : X → Bool) (xs : List X) → length xs ≤ position_or_len test xs → without test xs ≡ xs
without-past test [] h = refl
without-past test (x ∷ xs) h = without_past_step x xs (without test xs) (position_or_len test xs) (test x) h (without-past test xs)

place_step : (n len : ℕ) (found : Option ℕ) (place : ℕ) (b : Bool) → nat_lt n len ≡ b → cond b (Some n) None ≡ Some place → (n < len) × (n ≡ place)
place_step n len found place true e h = (ltb-true n len e, cc)
place_step n len found place false e h = absurd (cc h)

-- the place that is found
pub place_found : {X : Type 0} (test : X → Bool) (xs : List X) (place : ℕ) → position test xs ≡ Some place
    → (position_or_len test xs < length xs) × (position_or_len test xs ≡ place)
place_found test xs place h = place_step (position_or_len test xs) (length xs) None place (nat_lt (position_or_len test xs) (length xs)) refl h

no_place_step : (n len : ℕ) (b : Bool) → nat_lt n len ≡ b → cond b (Some n) None ≡ None → len ≤ n
no_place_step n len true e h = absurd (cc h)
no_place_step n len false e h = let lt = ltb-false n len e in omega arith

pub no_place : {X : Type 0} (test : X → Bool) (xs : List X) → position test xs ≡ None → length xs ≤ position_or_len test xs
no_place test xs h = no_place_step (position_or_len test xs) (length xs) (nat_lt (position_or_len test xs) (length xs)) refl h

-- what holds of each element holds of the one at a place
pub All-at : {X : Type 0} (P : X → Type 0) (xs : List X) (n : ℕ) (d : X) → AllByRecursion P xs → n < length xs → P (get_or xs n d)
All-at P [] n d all h = absurd (omega (arith, h))
All-at P (x ∷ xs) zero d all h = all.0
All-at P (x ∷ xs) (suc n) d all h = All-at P xs n d all.1 (omega arith)

written : {X : Type 0} (test : X → Bool) (f : X → X) (xs : List X) (n place : ℕ) (old new : X)
    → n ≡ place → old ≡ get_or xs place old → new ≡ f old → set xs place new ≡ set xs n (f (get_or xs n old))
written test f xs n place old new at read made =
    ap (λ y. set xs place y) (made ∙ ap f read) ∙ ap (λ k. set xs k (f (get_or xs k old))) (sym at)

-- a change that is written at the place that is found
pub changed_written : {X E : Type 0} (test : X → Bool) (f : X → X) (xs : List X) (place : ℕ) (old new : X) (result : Result (Unit {0}) E)
    → position test xs ≡ Some place → old ≡ slice_index_or xs place old → OnOk result (new ≡ f old)
    → OnOk result (slice_set xs place new ≡ changed test f xs)
changed_written test f xs place old new (Ok done) h read made =
    let found = place_found test xs place h in
    written test f xs (position_or_len test xs) place old new found.1 read made ∙ sym (changed-at test f old xs found.0)
changed_written test f xs place old new (Err e) h read made = tt
