-- Numbers that are put in a list and taken off it.
use Rattle.std.proofs.Common.{◌≡◌, ◌⊎◌, inl, inr, ⊎_elim, ℕ, zero, suc, ◌+◌, ◌<◌, ◌≤◌, Bool, false, Option, Some, None, IfSome, List, [], ◌∷◌, ◌++◌, length, get_or, drop, slice_get, refl, sym, ap, subst, arith, ◌∙◌}
use Rattle.std.specs.Prelude.{slice_set, sum_by, replicate, ◌^◌}
use Rattle.std.specs.List.{Contains}
use Rattle.std.proofs.lemmas.Bool.{cases_eq}
use Rattle.std.proofs.lemmas.List.{get_or-set_same, get_or-set_other, length-set}
use Rattle.std.proofs.lemmas.List.Elements.{Contains-append_left, Contains-push, Contains-push_cases}
use Rattle.std.proofs.lemmas.List.Sums.{sum_by-set}
use Rattle.vmv_links.specs.Lists.{Lists, list_at, first_of, IsListed}
use Rattle.vmv_forward.specs.Waiting.{total, load, AreRoom, AreMore, IsTaken, AreDone, AreAll}

-- what is in a list that was changed is in the new one, or was listed
back : (lists : List (List ℕ)) (l k : ℕ) (ys : List ℕ) → l < length lists → IsListed (slice_set lists l ys) k → Contains ys k ⊎ IsListed lists k
back lists l k ys inside (m, (few, has)) =
    let long = length-set lists l ys in
    ⊎_elim (λ (e : m ≡ l). inl (subst (λ (xs : List ℕ). Contains xs k) (ap (list_at (slice_set lists l ys)) e ∙ get_or-set_same lists l ys [] inside) has))
    (λ (n : m ≡ l → ⊥). inr (m, (omega arith, subst (λ (xs : List ℕ). Contains xs k) (get_or-set_other lists l m ys [] n) has))) (cases_eq m l)

-- what is in the new list is listed
into : (lists : List (List ℕ)) (l k : ℕ) (ys : List ℕ) → l < length lists → Contains ys k → IsListed (slice_set lists l ys) k
into lists l k ys inside has =
    let long = length-set lists l ys in
    (l, (omega arith, subst (λ (xs : List ℕ). Contains xs k) (sym (get_or-set_same lists l ys [] inside)) has))

-- what was listed is listed, where all of the old list is in the new one
onto : (lists : List (List ℕ)) (l k : ℕ) (ys : List ℕ) → l < length lists → (Contains (list_at lists l) k → Contains ys k) → IsListed lists k → IsListed (slice_set lists l ys) k
onto lists l k ys inside more (m, (few, has)) =
    let long = length-set lists l ys in
    ⊎_elim (λ (e : m ≡ l). into lists l k ys inside (more (subst (λ i. Contains (list_at lists i) k) e has)))
    (λ (n : m ≡ l → ⊥). (m, (omega arith, subst (λ (xs : List ℕ). Contains xs k) (sym (get_or-set_other lists l m ys [] n)) has))) (cases_eq m l)

total_push : (xs : List ℕ) (x : ℕ) → total (xs ++ x ∷ []) ≡ total xs + x
total_push [] x = omega arith
total_push (y ∷ xs) x = let h = total_push xs x in omega arith

load_set : (lists : List (List ℕ)) (l : ℕ) (ys : List ℕ) → l < length lists → sum_by total (slice_set lists l ys) + total (list_at lists l) ≡ sum_by total lists + total ys
load_set lists l ys inside = sum_by-set total lists l ys [] inside

-- a number is put at the end of a list
pub pushed : (old new : Lists) (l x : ℕ) → AreRoom old → l < 2 → 1 ≤ x → new.lists ≡ slice_set old.lists l (list_at old.lists l ++ x ∷ []) → new.size ≡ old.size → AreMore old new × IsListed new.lists x × (load new ≤ load old + x)
pushed old new l x room few one is size =
    let two = room.count in
    let inside : l < length old.lists = omega arith in
    let xs = list_at old.lists l in
    let ys = xs ++ x ∷ [] in
    let S : List (List ℕ) = slice_set old.lists l ys in
    let long : length new.lists ≡ length old.lists = ap length is ∙ length-set old.lists l ys in
    let small = room.few in
    let sum = load_set old.lists l ys inside in
    let t = total_push xs x in
    let e : load new ≡ sum_by total S = ap (λ (v : List (List ℕ)). sum_by total v) is in
    let f : load old ≡ sum_by total old.lists = refl in (
      record {
        size = size;
        room = record { few = omega arith; count = omega arith };
        kept = λ k listed. subst (λ (v : List (List ℕ)). IsListed v k) (sym is) (onto old.lists l k ys inside (λ has. Contains-append_left xs (x ∷ []) k has) listed);
        from = λ k listed.
            ⊎_elim (λ (h : Contains ys k).
            ⊎_elim (λ (g : Contains xs k). inl (l, (inside, g))) (λ (g : x ≡ k). inr (subst (λ n. 1 ≤ n) g one)) (Contains-push_cases xs x k h))
            (λ (h : IsListed old.lists k). inl h) (back old.lists l k ys inside (subst (λ (v : List (List ℕ)). IsListed v k) is listed));
      },
      subst (λ (v : List (List ℕ)). IsListed v x) (sym is) (into old.lists l x ys inside (Contains-push xs x)),
      omega arith,
    )

pub more_same : (old : Lists) → AreRoom old → AreMore old old
more_same old room = record { size = refl; room = room; kept = λ k h. h; from = λ k h. inl h }

pub more_chain : (a b c : Lists) → AreMore a b → AreMore b c → AreMore a c
more_chain a b c f g = record {
  size = g.size ∙ f.size;
  room = g.room;
  kept = λ k h. g.kept k (f.kept k h);
  from = λ k h. ⊎_elim (λ (x : IsListed b.lists k). f.from k x) (λ (y : 1 ≤ k). inr y) (g.from k h);
}

-- the first of a list, and those behind it

in_rest : (xs : List ℕ) (j k : ℕ) → Some j ≡ first_of xs → Contains xs k → (k ≡ j) ⊎ Contains (drop 1 xs) k
in_rest [] j k e has = absurd (cc)
in_rest (x ∷ xs) j k e (zero, few, is) = let same : j ≡ x = cc in inl (sym is ∙ sym same)
in_rest (x ∷ xs) j k e (suc i, few, is) = inr (i, omega (arith, few), is)

of_rest : (xs : List ℕ) (k : ℕ) → Contains (drop 1 xs) k → Contains xs k
of_rest [] k has = has
of_rest (x ∷ xs) k (i, few, is) = (suc i, omega (arith, few), is)

of_first : (xs : List ℕ) (j : ℕ) → Some j ≡ first_of xs → Contains xs j
of_first [] j e = absurd (cc)
of_first (x ∷ xs) j e = let same : j ≡ x = cc in (0, omega arith, sym same)

first_total : (xs : List ℕ) (j : ℕ) → Some j ≡ first_of xs → total (drop 1 xs) + j ≡ total xs
first_total [] j e = absurd (cc)
first_total (x ∷ xs) j e = let same : j ≡ x = cc in omega arith

none_first : (xs : List ℕ) (k : ℕ) → None ≡ first_of xs → Contains xs k → ⊥
none_first [] k e has = let few = has.1 in omega (arith, few)
none_first (x ∷ xs) k e has = absurd (cc)

none_rest : (xs : List ℕ) → None ≡ first_of xs → drop 1 xs ≡ xs
none_rest [] e = refl
none_rest (x ∷ xs) e = absurd (cc)

-- a number is taken off the front of a list
pub popped : (old new : Lists) (l j : ℕ) → AreRoom old → l < 2 → Some j ≡ first_of (list_at old.lists l) → j < old.size → new.lists ≡ slice_set old.lists l (drop 1 (list_at old.lists l)) → new.size ≡ old.size → IsTaken old j new
popped old new l j room few first below is size =
    let two = room.count in
    let inside : l < length old.lists = omega arith in
    let xs = list_at old.lists l in
    let ys = drop 1 xs in
    let S : List (List ℕ) = slice_set old.lists l ys in
    let long : length new.lists ≡ length old.lists = ap length is ∙ length-set old.lists l ys in
    let small = room.few in
    let sum = load_set old.lists l ys inside in
    let t = first_total xs j first in
    let e : load new ≡ sum_by total S = ap (λ (v : List (List ℕ)). sum_by total v) is in
    let f : load old ≡ sum_by total old.lists = refl in
    record {
      size = size;
      room = record { few = omega arith; count = omega arith };
      inside = below;
      was = (l, (inside, of_first xs j first));
      others = λ k listed. others_of k listed;
      from = λ k listed.
          ⊎_elim (λ (h : Contains ys k). (l, (inside, of_rest xs k h))) (λ (h : IsListed old.lists k). h) (back old.lists l k ys inside (subst (λ (v : List (List ℕ)). IsListed v k) is listed));
      load = omega arith;
    }
  where
    others_of : (k : ℕ) → IsListed old.lists k → (k ≡ j) ⊎ IsListed new.lists k
    others_of k (m, (little, has)) =
        let two = room.count in
        let inside : l < length old.lists = omega arith in
        let xs = list_at old.lists l in
        let long = length-set old.lists l (drop 1 xs) in
        ⊎_elim (λ (e : m ≡ l).
        ⊎_elim (λ (h : k ≡ j). inl h) (λ (h : Contains (drop 1 xs) k). inr (subst (λ (v : List (List ℕ)). IsListed v k) (sym is) (into old.lists l k (drop 1 xs) inside h)))
        (in_rest xs j k first (subst (λ i. Contains (list_at old.lists i) k) e has)))
        (λ (n : m ≡ l → ⊥). inr (subst (λ (v : List (List ℕ)). IsListed v k) (sym is) (m, (omega arith, subst (λ (zs : List ℕ). Contains zs k) (sym (get_or-set_other old.lists l m (drop 1 xs) [] n)) has)))) (cases_eq m l)

-- a list that is empty stays
same_set : (lists : List (List ℕ)) (l : ℕ) → slice_set lists l (list_at lists l) ≡ lists
same_set [] l = refl
same_set (xs ∷ lists) zero = refl
same_set (xs ∷ lists) (suc l) = ap (λ v. xs ∷ v) (same_set lists l)

pub unpopped : (old new : Lists) (l : ℕ) → None ≡ first_of (list_at old.lists l) → new.lists ≡ slice_set old.lists l (drop 1 (list_at old.lists l)) → new.size ≡ old.size → new ≡ old
unpopped old new l none is size =
    let e : new.lists ≡ old.lists = is ∙ (ap (slice_set old.lists l) (none_rest (list_at old.lists l) none) ∙ same_set old.lists l) in
    same_parts old.size new.size old.lists new.lists size e
  where
    made : ℕ → List (List ℕ) → Lists
    made n v = record { size = n; lists = v }

    same_parts : (a b : ℕ) (v w : List (List ℕ)) → b ≡ a → w ≡ v → made b w ≡ made a v
    same_parts a b v w f g = λ t. made (f t) (g t)

-- where both lists are empty nothing is listed
pub none_listed : (v : Lists) → AreRoom v → None ≡ first_of (list_at v.lists 0) → None ≡ first_of (list_at v.lists 1) → AreDone v
none_listed v room a b k (zero, (few, has)) = none_first (list_at v.lists 0) k a has
none_listed v room a b k (suc zero, (few, has)) = none_first (list_at v.lists 1) k b has
none_listed v room a b k (suc (suc m), (few, has)) = let two = room.count in omega arith

-- the next is taken off the second list, where the first is empty
pub then_popped : (r : Option ℕ) (old mid new : Lists) → AreRoom old → mid ≡ old → r ≡ first_of (list_at mid.lists 1) → IfSome r (λ item. item < mid.size) → new.lists ≡ slice_set mid.lists 1 (drop 1 (list_at mid.lists 1)) → new.size ≡ mid.size → IfSome r (λ item. IsTaken old item new)
then_popped None old mid new room same first below is size = tt
then_popped (Some j) old mid new room same first below is size =
    subst (λ (m : Lists). IsTaken m j new) same (popped mid new 1 j (subst AreRoom (sym same) room) (omega arith) first below is size)

-- the instances from a number on are listed
pub record FilledTo (count number : ℕ) (waiting : Lists) : Type 0 where
  pub room : AreRoom waiting
  pub size : waiting.size ≡ count
  pub most : number ≤ count
  pub from : (k : ℕ) → IsListed waiting.lists k → 1 ≤ k
  pub listed : (k : ℕ) → number ≤ k → k < count → IsListed waiting.lists k

none_of_two : (k : ℕ) → IsListed ([] ∷ [] ∷ []) k → ⊥
none_of_two k (zero, (few, has)) = let l = has.1 in omega (arith, l)
none_of_two k (suc zero, (few, has)) = let l = has.1 in omega (arith, l)
none_of_two k (suc (suc m), (few, has)) = omega (arith, few)

pub filled_start : (count size : ℕ) (waiting : Lists) → size < 2 ^ 32 → size ≡ count → waiting ≡ record { size = size; lists = replicate 2 [] } → FilledTo count count waiting
filled_start count size waiting few same is =
    let e : waiting.lists ≡ [] ∷ [] ∷ [] = ap (λ (w : Lists). w.lists) is in
    let f : waiting.size ≡ size = ap (λ (w : Lists). w.size) is in
    record {
      room = record { few = omega arith; count = ap length e };
      size = f ∙ same;
      most = omega arith;
      from = λ k h. absurd (none_of_two k (subst (λ (v : List (List ℕ)). IsListed v k) e h));
      listed = λ k a b. absurd (omega arith);
    }

pub filled_more : (count number j : ℕ) (old new : Lists) → number ≡ j + 1 → FilledTo count number old → AreMore old new → IsListed new.lists j → FilledTo count j new
filled_more count number j old new next h more there = record {
  room = more.room;
  size = more.size ∙ h.size;
  most = (let m = h.most in omega arith);
  from = λ k g. ⊎_elim (λ (x : IsListed old.lists k). h.from k x) (λ (y : 1 ≤ k). y) (more.from k g);
  listed = λ k a b. ⊎_elim (λ (e : k ≡ j). subst (IsListed new.lists) (sym e) there) (λ (n : k ≡ j → ⊥). more.kept k (h.listed k (omega arith) b)) (cases_eq k j);
}

pub filled_end : (count number : ℕ) (waiting : Lists) → number ≤ 1 → FilledTo count number waiting → AreAll waiting count
filled_end count number waiting few h = record { room = h.room; size = h.size; from = h.from; listed = λ k a b. h.listed k (omega arith) b }

-- the called instances below a place are listed, whose flags are set
pub record PutTo (callees : List ℕ) (risen : List Bool) (old new : Lists) (index : ℕ) : Type 0 where
  pub more : AreMore old new
  pub called : (c k : ℕ) → c < index → slice_get callees c ≡ Some k → (slice_get risen c ≡ Some false) ⊎ IsListed new.lists k

pub put_start : (callees : List ℕ) (risen : List Bool) (old : Lists) → AreRoom old → PutTo callees risen old old 0
put_start callees risen old room = record { more = more_same old room; called = λ c k few at. absurd (omega arith) }

pub put_next : (callees : List ℕ) (risen : List Bool) (old mid new : Lists) (index callee : ℕ) → slice_get callees index ≡ Some callee → PutTo callees risen old mid index → AreMore mid new →
    (slice_get risen index ≡ Some false) ⊎ IsListed new.lists callee → PutTo callees risen old new (index + 1)
put_next callees risen old mid new index callee here h more told = record {
  more = more_chain old mid new h.more more;
  called = λ c k few at.
      ⊎_elim (λ (e : c ≡ index).
      let same : callee ≡ k = some_same (sym here ∙ (ap (slice_get callees) (sym e) ∙ at)) in
      subst (λ i. (slice_get risen i ≡ Some false) ⊎ IsListed new.lists k) (sym e) (subst (λ n. (slice_get risen index ≡ Some false) ⊎ IsListed new.lists n) same told))
      (λ (n : c ≡ index → ⊥).
      ⊎_elim (λ (g : slice_get risen c ≡ Some false). inl g) (λ (g : IsListed mid.lists k). inr (more.kept k g)) (h.called c k (omega arith) at))
      (cases_eq c index);
}
  where
    some_same : {X : Type 0} {x y : X} → Some x ≡ Some y → x ≡ y
    some_same e = cc

within : {X : Type 0} (xs : List X) (n : ℕ) (x : X) → slice_get xs n ≡ Some x → n < length xs
within [] n x e = absurd (cc)
within (y ∷ xs) zero x e = omega arith
within (y ∷ xs) (suc n) x e = let h = within xs n x e in omega arith

pub put_end : (callees : List ℕ) (risen : List Bool) (old new : Lists) (index : ℕ) → length callees ≤ index → PutTo callees risen old new index → (c k : ℕ) → slice_get callees c ≡ Some k → (slice_get risen c ≡ Some false) ⊎ IsListed new.lists k
put_end callees risen old new index all h c k at = let i = within callees c k at in h.called c k (omega arith) at

pub got : {X : Type 0} (xs : List X) (n : ℕ) (d : X) → n < length xs → slice_get xs n ≡ Some (get_or xs n d)
got [] n d h = absurd (omega arith)
got (x ∷ xs) zero d h = refl
got (x ∷ xs) (suc n) d h = got xs n d (omega (arith, h))
