-- Two lists of places, none of which stands twice.
use Rattle.std.proofs.Common.{◌≡◌, ◌≢◌, ◌==◌, ◌≤◌, ◌<◌, ◌+◌, ◌⊎◌, ℕ, zero, suc, Bool, true, false, cond, List, [], ◌∷◌, ◌++◌, map, length, get_or, drop, Option, Some, None, refl, ap, sym, ◌∙◌, subst, inl, inr, arith, length-append}
use Rattle.std.proofs.Common.{leb}
use Rattle.std.specs.List.{AllByRecursion, AllPairs, Contains, range_with_len}
use Rattle.std.proofs.Math.ListN.{set}
use borrow.Author.Tests.{lt-leb, le-leb}
use Rattle.std.proofs.lemmas.List.{get_or-set_other, get_or-set_same, map-append}
use Rattle.vmv_keeper.proofs.ListChanges.{length_map-same}
use Rattle.vmv_links.specs.Lists.{Lists, list_at, first_of, without as without_place, IsApart, IsListed, StandsIn}
use Rattle.vmv_links.proofs.RingLemmas.{without_same, without_other}
use Rattle.vmv_keeper.specs.Changes.{without}
use Rattle.vmv_keeper.specs.declared.project.Bench.{Bench}
use Rattle.vmv_desk.specs.Queues.{number_at, place_in, with_number, IsQueue}

-- no number stands twice
abbrev pub Once : List ℕ → Type 0
Once [] = Unit {0}
Once (x ∷ xs) = AllByRecursion (λ y. y ≢ x) xs × Once xs

contains_head : (x : ℕ) (xs : List ℕ) → Contains (x ∷ xs) x
contains_head x xs = (0, omega arith, refl)

contains_tail : (x y : ℕ) (xs : List ℕ) → Contains xs y → Contains (x ∷ xs) y
contains_tail x y xs h = let small = h.1 in (suc h.0, omega arith, h.2)

-- what isn't in a list differs from each of its numbers
pub not_in : (xs : List ℕ) (x : ℕ) → (Contains xs x → ⊥) → AllByRecursion (λ y. y ≢ x) xs
not_in [] x absent = tt
not_in (y ∷ ys) x absent =
    (λ e. let P : ℕ → Type 0 = λ z. Contains (z ∷ ys) x in absent (subst P (sym e) (contains_head x ys)), not_in ys x (λ h. absent (contains_tail y x ys h)))

differs_from : (xs : List ℕ) (x k : ℕ) → AllByRecursion (λ y. y ≢ x) xs → k < length xs → get_or xs k x ≡ x → ⊥
differs_from [] x k all small e = absurd (omega arith)
differs_from (y ∷ ys) x zero all small e = all.0 e
differs_from (y ∷ ys) x (suc k) all small e = differs_from ys x k all.1 (omega arith) e

pub differs : (xs : List ℕ) (x : ℕ) → AllByRecursion (λ y. y ≢ x) xs → Contains xs x → ⊥
differs xs x all h = differs_from xs x h.0 all h.1 h.2

pub once_of : (xs : List ℕ) → AllPairs (λ x y. x ≢ y) xs → Once xs
once_of [] pairs = tt
once_of (x ∷ xs) pairs = (
  not_in xs x (λ h. let small = h.1 in pairs 0 (suc h.0) x (omega arith) (omega arith) (sym h.2)),
  once_of xs (λ i j d lt h. pairs (suc i) (suc j) d (omega arith) (omega arith)),
)

-- the two lists, none of whose places stands twice
pub record Apart (waiting free : List ℕ) : Type 0 where
  pub waiting_once : Once waiting
  pub free_once : Once free
  pub apart : (x : ℕ) → Contains waiting x → Contains free x → ⊥

pub apart_of : (v : Lists) → IsApart v → length v.lists ≡ 2 → Apart (list_at v.lists 0) (list_at v.lists 1)
apart_of v h two =
    record {
      waiting_once = once_of (list_at v.lists 0) (h.once 0 (omega arith));
      free_once = once_of (list_at v.lists 1) (h.once 1 (omega arith));
      apart = λ x w f. let e : 0 ≡ 1 = h.one_list 0 1 x (omega arith, w) (omega arith, f) in omega arith;
    }

-- lists that are two
pub two_lists : (lists : List (List ℕ)) → length lists ≡ 2 → lists ≡ list_at lists 0 ∷ list_at lists 1 ∷ []
two_lists [] e = absurd (omega arith)
two_lists (a ∷ []) e = absurd (omega arith)
two_lists (a ∷ b ∷ []) e = refl
two_lists (a ∷ b ∷ c ∷ rest) e = absurd (omega arith)

-- what is listed is in one of the two
pub listed_in : (a b : List ℕ) (x l : ℕ) → StandsIn (a ∷ b ∷ []) l x → Contains a x ⊎ Contains b x
listed_in a b x zero h = inl h.1
listed_in a b x (suc zero) h = inr h.1
listed_in a b x (suc (suc l)) h = let small = h.0 in absurd (omega arith)

pub unlisted : (a b : List ℕ) (x : ℕ) → AllByRecursion (λ y. y ≢ x) a → AllByRecursion (λ y. y ≢ x) b → IsListed (a ∷ b ∷ []) x → ⊥
unlisted a b x na nb h = elim (listed_in a b x h.0 h.1) [ inl c ↦ differs a x na c | inr c ↦ differs b x nb c ]

-- the first free place, taken off, is in no list
pub taken_free : (a b : List ℕ) (x : ℕ) → Apart a b → Some x ≡ first_of b
    → AllByRecursion (λ y. y ≢ x) a × AllByRecursion (λ y. y ≢ x) (drop 1 b) × (length b ≡ length (drop 1 b) + 1)
taken_free a [] x h e = absurd (cc e)
taken_free a (y ∷ b) x h e =
    let same : x ≡ y = cc e in
    let P : ℕ → Type 0 = λ z. AllByRecursion (λ w. w ≢ z) a × AllByRecursion (λ w. w ≢ z) b × (length (y ∷ b) ≡ length b + 1) in
    subst P (sym same) (not_in a y (λ c. h.apart y c (contains_head y b)), h.free_once.0, omega arith)

-- a number at another place stays
pub numbers_elsewhere : (numbers : List ℕ) (x n : ℕ) (a : List ℕ) → AllByRecursion (λ y. y ≢ x) a → map (number_at (set numbers x n)) a ≡ map (number_at numbers) a
numbers_elsewhere numbers x n [] all = refl
numbers_elsewhere numbers x n (y ∷ ys) all =
    ap (λ m. m ∷ map (number_at (set numbers x n)) ys) (get_or-set_other numbers x y n 0 all.0)
    ∙ ap (λ ms. number_at numbers y ∷ ms) (numbers_elsewhere numbers x n ys all.1)

pub numbers_pushed : (numbers : List ℕ) (x n : ℕ) (a : List ℕ) → AllByRecursion (λ y. y ≢ x) a → x < length numbers
    → map (number_at (set numbers x n)) (a ++ x ∷ []) ≡ map (number_at numbers) a ++ n ∷ []
numbers_pushed numbers x n a all small =
    map-append (number_at (set numbers x n)) a (x ∷ [])
    ∙ ap (λ ms. ms ++ number_at (set numbers x n) x ∷ []) (numbers_elsewhere numbers x n a all)
    ∙ ap (λ m. map (number_at numbers) a ++ m ∷ []) (get_or-set_same numbers x n 0 small)

pub without_none : (x : ℕ) (b : List ℕ) → AllByRecursion (λ y. y ≢ x) b → without_place x b ≡ b
without_none x [] all = refl
without_none x (y ∷ ys) all = without_other x y ys all.0 ∙ ap (λ zs. y ∷ zs) (without_none x ys all.1)

-- the place of a number, taken out of the places that wait
pub record IsRemoved (numbers : List ℕ) (number x : ℕ) (a : List ℕ) : Type 0 where
  pub inside : Contains a x
  pub gone : AllByRecursion (λ y. y ≢ x) (without_place x a)
  pub shorter : length (without_place x a) + 1 ≡ length a
  pub others : map (number_at numbers) (without_place x a) ≡ without (λ n. n == number) (map (number_at numbers) a)

in_all : (P : ℕ → Type 0) (xs : List ℕ) (x k : ℕ) → AllByRecursion P xs → k < length xs → get_or xs k x ≡ x → P x
in_all P [] x k all small e = absurd (omega arith)
in_all P (y ∷ ys) x zero all small e = subst P e all.0
in_all P (y ∷ ys) x (suc k) all small e = in_all P ys x k all.1 (omega arith) e

removed_here : (numbers : List ℕ) (number y : ℕ) (ys : List ℕ) → AllByRecursion (λ z. z ≢ y) ys → (number_at numbers y == number) ≡ true → IsRemoved numbers number y (y ∷ ys)
removed_here numbers number y ys once same =
    let e : without_place y (y ∷ ys) ≡ ys = without_same y y ys refl ∙ without_none y ys once in
    record {
      inside = contains_head y ys;
      gone = let P : List ℕ → Type 0 = λ l. AllByRecursion (λ z. z ≢ y) l in subst P (sym e) once;
      shorter = let n = ap length e in omega arith;
      others = ap (map (number_at numbers)) e
          ∙ sym (ap (λ b. cond b (map (number_at numbers) ys) (number_at numbers y ∷ without (λ n. n == number) (map (number_at numbers) ys))) same);
    }

removed_later : (numbers : List ℕ) (number x y : ℕ) (ys : List ℕ) → AllByRecursion (λ z. z ≢ y) ys → (number_at numbers y == number) ≡ false
    → IsRemoved numbers number x ys → IsRemoved numbers number x (y ∷ ys)
removed_later numbers number x y ys once other h =
    let apart : x ≢ y = in_all (λ z. z ≢ y) ys x h.inside.0 once h.inside.1 h.inside.2 in
    let apart_back : y ≢ x = λ same. apart (sym same) in
    let e : without_place x (y ∷ ys) ≡ y ∷ without_place x ys = without_other x y ys apart_back in
    record {
      inside = contains_tail y x ys h.inside;
      gone = let P : List ℕ → Type 0 = λ l. AllByRecursion (λ z. z ≢ x) l in subst P (sym e) (apart_back, h.gone);
      shorter = let n = ap length e in let m = h.shorter in omega arith;
      others = ap (map (number_at numbers)) e ∙ ap (λ l. number_at numbers y ∷ l) h.others
          ∙ sym (ap (λ b. cond b (map (number_at numbers) ys) (number_at numbers y ∷ without (λ n. n == number) (map (number_at numbers) ys))) other);
    }

removed_step : (numbers : List ℕ) (number x y : ℕ) (ys : List ℕ) (b : Bool) → (number_at numbers y == number) ≡ b → Once (y ∷ ys)
    → Some x ≡ cond b (Some y) (place_in numbers number ys) → (Some x ≡ place_in numbers number ys → IsRemoved numbers number x ys) → IsRemoved numbers number x (y ∷ ys)
removed_step numbers number x y ys true e once found later =
    let same : x ≡ y = cc found in
    let P : ℕ → Type 0 = λ z. IsRemoved numbers number z (y ∷ ys) in subst P (sym same) (removed_here numbers number y ys once.0 e)
removed_step numbers number x y ys false e once found later = removed_later numbers number x y ys once.0 e (later found)

pub removed : (numbers : List ℕ) (number x : ℕ) (a : List ℕ) → Once a → Some x ≡ place_in numbers number a → IsRemoved numbers number x a
removed numbers number x [] once found = absurd (cc found)
removed numbers number x (y ∷ ys) once found =
    removed_step numbers number x y ys (number_at numbers y == number) refl once found (removed numbers number x ys once.1)

kept_step : (y n : ℕ) (rest later : List ℕ) (found : Option ℕ) (b : Bool) → None ≡ cond b (Some y) found → (None ≡ found → later ≡ rest) → cond b rest (n ∷ later) ≡ n ∷ rest
kept_step y n rest later found true e h = absurd (cc e)
kept_step y n rest later found false e h = ap (λ l. n ∷ l) (h e)

-- a number that has no place doesn't wait
pub not_removed : (numbers : List ℕ) (number : ℕ) (a : List ℕ) → None ≡ place_in numbers number a
    → without (λ n. n == number) (map (number_at numbers) a) ≡ map (number_at numbers) a
not_removed numbers number [] e = refl
not_removed numbers number (y ∷ ys) e =
    kept_step y (number_at numbers y) (map (number_at numbers) ys) (without (λ n. n == number) (map (number_at numbers) ys)) (place_in numbers number ys)
    (number_at numbers y == number) e (not_removed numbers number ys)

-- the two lists after the changes of a queue

pub popped : (lists new : List (List ℕ)) → length lists ≡ 2 → new ≡ set lists 1 (drop 1 (list_at lists 1)) → new ≡ list_at lists 0 ∷ drop 1 (list_at lists 1) ∷ []
popped lists new two e = e ∙ ap (λ (l : List (List ℕ)). set l 1 (drop 1 (list_at lists 1))) (two_lists lists two)

pub pushed_waiting : (lists new : List (List ℕ)) (a b : List ℕ) (x : ℕ) → lists ≡ a ∷ b ∷ [] → new ≡ set lists 0 (list_at lists 0 ++ x ∷ []) → new ≡ (a ++ x ∷ []) ∷ b ∷ []
pushed_waiting lists new a b x e h = h ∙ ap (λ (l : List (List ℕ)). set l 0 (list_at l 0 ++ x ∷ [])) e

pub pushed_free : (lists new : List (List ℕ)) (a b : List ℕ) (x : ℕ) → lists ≡ a ∷ b ∷ [] → new ≡ set lists 1 (list_at lists 1 ++ x ∷ []) → new ≡ a ∷ (b ++ x ∷ []) ∷ []
pushed_free lists new a b x e h = h ∙ ap (λ (l : List (List ℕ)). set l 1 (list_at l 1 ++ x ∷ [])) e

pub taken_out : (lists new : List (List ℕ)) (x : ℕ) → length lists ≡ 2 → new ≡ map (without_place x) lists
    → new ≡ without_place x (list_at lists 0) ∷ without_place x (list_at lists 1) ∷ []
taken_out lists new x two e = e ∙ ap (map (without_place x)) (two_lists lists two)

pub unlisted_in : (lists : List (List ℕ)) (a b : List ℕ) (x : ℕ) → lists ≡ a ∷ b ∷ [] → AllByRecursion (λ y. y ≢ x) a → AllByRecursion (λ y. y ≢ x) b → IsListed lists x → ⊥
unlisted_in lists a b x e na nb h = let P : List (List ℕ) → Type 0 = λ l. IsListed l x in unlisted a b x na nb (subst P e h)

-- one more number waits, where fewer than 32 do
pub with_pushed : (owner name numbers a b : List ℕ) (x n : ℕ) → Apart a b → Some x ≡ first_of b → length a + length b ≡ 32 → x < length numbers
    → ◌≡◌ {A = Bench} (record { owner = owner; name = name; pending = map (number_at (set numbers x n)) (a ++ x ∷ []) })
    (with_number n (record { owner = owner; name = name; pending = map (number_at numbers) a }))
with_pushed owner name numbers a b x n apart first all small =
    let free = taken_free a b x apart first in
    let shorter = free.2 in
    let same = length_map-same (number_at numbers) a in
    let fewer : leb 32 (length (map (number_at numbers) a)) ≡ false = lt-leb 32 (length (map (number_at numbers) a)) (omega arith) in
    let bench : List ℕ → Bench = λ l. record { owner = owner; name = name; pending = l } in
    let choice : Bool → Bench = λ t. cond t (bench (map (number_at numbers) a)) (bench (map (number_at numbers) a ++ n ∷ [])) in
    ap bench (numbers_pushed numbers x n a free.0 small) ∙ sym (ap choice fewer)

-- no number waits more where all 32 do
pub with_none_free : (owner name numbers a b : List ℕ) (n : ℕ) → None ≡ first_of b → length a + length b ≡ 32
    → ◌≡◌ {A = Bench} (record { owner = owner; name = name; pending = map (number_at numbers) a })
    (with_number n (record { owner = owner; name = name; pending = map (number_at numbers) a }))
with_none_free owner name numbers a [] n first all =
    let same = length_map-same (number_at numbers) a in
    let full : leb 32 (length (map (number_at numbers) a)) ≡ true = le-leb 32 (length (map (number_at numbers) a)) (omega arith) in
    let bench : List ℕ → Bench = λ l. record { owner = owner; name = name; pending = l } in
    let choice : Bool → Bench = λ t. cond t (bench (map (number_at numbers) a)) (bench (map (number_at numbers) a ++ n ∷ [])) in
    sym (ap choice full)
with_none_free owner name numbers a (y ∷ b) n first all = absurd (cc first)

-- the free places as they are made
pub range_apart : (a m n : ℕ) → a + m ≤ n → AllByRecursion (λ y. y ≢ n) (range_with_len a m)
range_apart a zero n le = tt
range_apart a (suc m) n le = (λ e. absurd (omega arith), range_apart (a + 1) m n (omega arith))

pub range_more : (a n : ℕ) → range_with_len a n ++ (a + n) ∷ [] ≡ range_with_len a (suc n)
range_more a zero = let e : a + 0 ≡ a = omega arith in ap (λ k. k ∷ []) e
range_more a (suc n) =
    let e : a + suc n ≡ a + 1 + n = omega arith in
    ap (λ k. a ∷ (range_with_len (a + 1) n ++ k ∷ [])) e ∙ ap (λ l. a ∷ l) (range_more (a + 1) n)

-- what stands of a place that is found to wait under a number
pub found_place : (numbers : List ℕ) (links : Lists) (number x : ℕ) → IsApart links → length links.lists ≡ 2
    → Some x ≡ place_in numbers number (list_at links.lists 0)
    → IsRemoved numbers number x (list_at links.lists 0) × AllByRecursion (λ y. y ≢ x) (list_at links.lists 1) × (x < links.size)
found_place numbers links number x apart two found =
    let both = apart_of links apart two in
    let gone = removed numbers number x (list_at links.lists 0) both.waiting_once found in
    (gone, not_in (list_at links.lists 1) x (λ h. both.apart x gone.inside h), apart.small 0 x (omega arith, gone.inside))

-- the two lists behind the removal
pub lists_removed : (numbers : List ℕ) (links : Lists) (number x : ℕ) (taken new : List (List ℕ)) → IsApart links → length links.lists ≡ 2
    → Some x ≡ place_in numbers number (list_at links.lists 0) → taken ≡ map (without_place x) links.lists
    → new ≡ set taken 1 (list_at taken 1 ++ x ∷ [])
    → (new ≡ without_place x (list_at links.lists 0) ∷ (list_at links.lists 1 ++ x ∷ []) ∷ []) × (IsListed taken x → ⊥)
lists_removed numbers links number x taken new apart two found et en =
    let gone = found_place numbers links number x apart two found in
    let a = without_place x (list_at links.lists 0) in
    let b = list_at links.lists 1 in
    let same : taken ≡ a ∷ b ∷ [] = taken_out links.lists taken x two et ∙ ap (λ l. a ∷ l ∷ []) (without_none x b gone.1) in
    (pushed_free taken new a b x same en, unlisted_in taken a b x same gone.0.gone gone.1)

pub queue_removed : (numbers : List ℕ) (links after : Lists) (number x : ℕ) (taken : List (List ℕ)) → IsQueue numbers links → IsApart links
    → Some x ≡ place_in numbers number (list_at links.lists 0) → taken ≡ map (without_place x) links.lists
    → after.lists ≡ set taken 1 (list_at taken 1 ++ x ∷ []) → after.size ≡ links.size → IsQueue numbers after
queue_removed numbers links after number x taken queue apart found et en size =
    let gone = found_place numbers links number x apart queue.two found in
    let lists = (lists_removed numbers links number x taken after.lists apart queue.two found et en).0 in
    let P : List (List ℕ) → Type 0 = λ l. (length l ≡ 2) × (length (list_at l 0) + length (list_at l 1) ≡ 32) in
    let shorter = gone.0.shorter in
    let longer = length-append (list_at links.lists 1) (x ∷ []) in
    let all = queue.all in
    let good = subst P (sym lists) (omega arith, omega arith) in
    record { places = queue.places; size = size ∙ queue.size; two = good.0; all = good.1 }
