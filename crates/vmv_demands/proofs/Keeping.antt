-- Items that are kept as they are found are the first of each that are the same, where items that are the same are so to the
-- same ones.
use Rattle.std.proofs.Common.{◌≡◌, ℕ, zero, suc, ◌<◌, ◌≤◌, nat_lt, min, Bool, true, false, not, ◌&&◌, ◌||◌, List, [], ◌∷◌, ◌++◌, length, filter, take, refl, sym, ap, ◌∙◌, arith, append_assoc, append-nil, length-append, length-take, if◌then◌else◌}
use Rattle.std.specs.List.{list_any}
use Rattle.std.proofs.lemmas.Bool.Decides.{nat_tests}
use Rattle.std.proofs.lemmas.List.{take-append-le, take_all}
use Rattle.std.proofs.lemmas.List.Elements.{filter-append}
use Rattle.vmv_back.specs.Firsts.{firsts}
use Rattle.vmv_back.specs.Kept.{keep, keep_all}

pick_true : {A : Type 0} (b : Bool) (x y : A) → b ≡ true → (if b then x else y) ≡ x
pick_true true x y e = refl
pick_true false x y e = absurd (cc)

pick_false : {A : Type 0} (b : Bool) (x y : A) → b ≡ false → (if b then x else y) ≡ y
pick_false true x y e = absurd (cc)
pick_false false x y e = refl

not_true : (b : Bool) → b ≡ true → not b ≡ false
not_true b e = ap not e

not_false : (b : Bool) → b ≡ false → not b ≡ true
not_false b e = ap not e

and_not : (a b : Bool) → b ≡ true → (a && not b) ≡ false
and_not true b e = ap not e
and_not false b e = refl

fewer_all : {A : Type 0} (most : ℕ) (all : List A) → nat_lt (length (take most all)) most ≡ true → length all < most
fewer_all most all e = less (length (take most all)) (length all) most (length-take most all) e
  where
    less : (k n m : ℕ) → k ≡ min m n → nat_lt k m ≡ true → n < m
    less k n m l e = grind (arith, nat_tests)

few_all : {A : Type 0} (most : ℕ) (all : List A) → nat_lt (length (take most all)) most ≡ true → length all ≤ most
few_all most all e = omega (arith, fewer_all most all e)

many_all : {A : Type 0} (most : ℕ) (all : List A) → nat_lt (length (take most all)) most ≡ false → most ≤ length all
many_all most all e = more (length (take most all)) (length all) most (length-take most all) e
  where
    more : (k n m : ℕ) → k ≡ min m n → nat_lt k m ≡ false → m ≤ n
    more k n m l e = grind (arith, nat_tests)

not_less : (a b : ℕ) → b ≤ a → nat_lt a b ≡ false
not_less a b h = grind (arith, nat_tests)

pub keep_all-append : {A : Type 0} (most : ℕ) (same : A → A → Bool) (kept xs ys : List A) → keep_all most same kept (xs ++ ys) ≡ keep_all most same (keep_all most same kept xs) ys
keep_all-append most same kept [] ys = refl
keep_all-append most same kept (x ∷ xs) ys = keep_all-append most same (keep most same kept x) xs ys

module _ {A : Type 0} (same : A → A → Bool) (agrees : (x y z : A) → same x y ≡ true → same y z ≡ same x z) where
  stays : (most : ℕ) (kept : List A) (x : A) → (nat_lt (length kept) most && not (list_any (λ y. same y x) kept)) ≡ false → keep most same kept x ≡ kept
  stays most kept x e = pick_false (nat_lt (length kept) most && not (list_any (λ y. same y x) kept)) (kept ++ x ∷ []) kept e

  -- nothing more is kept where so many are
  pub full_stays : (most : ℕ) (kept xs : List A) → most ≤ length kept → keep_all most same kept xs ≡ kept
  full_stays most kept [] h = refl
  full_stays most kept (x ∷ xs) h =
      ap (λ (ys : List A). keep_all most same ys xs) (stays most kept x (ap (λ (b : Bool). b && not (list_any (λ y. same y x) kept)) (not_less (length kept) most h)))
      ∙ full_stays most kept xs h

  -- x, unless one of these is the same
  abbrev unless_there : List A → A → List A
  unless_there xs x = if list_any (λ y. same y x) xs then [] else x ∷ []

  -- what differs from x is there after the filter where it was there before
  still_there : (y x : A) (zs : List A) → same y x ≡ false → list_any (λ z. same z x) (filter (λ z. not (same y z)) zs) ≡ list_any (λ z. same z x) zs
  still_there y x [] e = refl
  still_there y x (z ∷ zs) e = by (same y z) refl (still_there y x zs e)
    where
      by : (b : Bool) → same y z ≡ b → list_any (λ z. same z x) (filter (λ z. not (same y z)) zs) ≡ list_any (λ z. same z x) zs →
          list_any (λ z. same z x) (if not (same y z) then z ∷ filter (λ z. not (same y z)) zs else filter (λ z. not (same y z)) zs) ≡ (same z x || list_any (λ z. same z x) zs)
      by true f rest =
          let other : same z x ≡ false = agrees y z x f ∙ e in
          ap (list_any (λ z. same z x)) (pick_false (not (same y z)) (z ∷ filter (λ z. not (same y z)) zs) (filter (λ z. not (same y z)) zs) (not_true (same y z) f))
          ∙ rest ∙ ap (λ (b : Bool). b || list_any (λ z. same z x) zs) (sym other)
      by false f rest =
          ap (list_any (λ z. same z x)) (pick_true (not (same y z)) (z ∷ filter (λ z. not (same y z)) zs) (filter (λ z. not (same y z)) zs) (not_false (same y z) f))
          ∙ ap (λ (b : Bool). same z x || b) rest

  firsts_push : (xs : List A) (x : A) → firsts same (xs ++ x ∷ []) ≡ firsts same xs ++ unless_there (firsts same xs) x
  firsts_push [] x = refl
  firsts_push (y ∷ xs) x =
      ap (λ (zs : List A). y ∷ filter (λ z. not (same y z)) zs) (firsts_push xs x)
      ∙ ap (λ (zs : List A). y ∷ zs) (filter-append (λ z. not (same y z)) (firsts same xs) (unless_there (firsts same xs) x))
      ∙ ap (λ (zs : List A). y ∷ (filter (λ z. not (same y z)) (firsts same xs) ++ zs)) (by (same y x) refl)
    where
      left : List A
      left = filter (λ z. not (same y z)) (firsts same xs)

      by : (b : Bool) → same y x ≡ b → filter (λ z. not (same y z)) (unless_there (firsts same xs) x) ≡ (if same y x || list_any (λ z. same z x) (filter (λ z. not (same y z)) (firsts same xs)) then [] else x ∷ [])
      by true e =
          drops (list_any (λ z. same z x) (firsts same xs))
          ∙ sym (pick_true (same y x || list_any (λ z. same z x) (filter (λ z. not (same y z)) (firsts same xs))) [] (x ∷ []) (ap (λ (b : Bool). b || list_any (λ z. same z x) (filter (λ z. not (same y z)) (firsts same xs))) e))
        where
          drops : (c : Bool) → filter (λ z. not (same y z)) (if c then [] else x ∷ []) ≡ []
          drops true = refl
          drops false = pick_false (not (same y x)) (x ∷ []) [] (not_true (same y x) e)
      by false e =
          stays (list_any (λ z. same z x) (firsts same xs))
          ∙ ap (λ (b : Bool). if b then [] else x ∷ []) (sym (ap (λ (b : Bool). b || list_any (λ z. same z x) (filter (λ z. not (same y z)) (firsts same xs))) e ∙ still_there y x (firsts same xs) e))
        where
          stays : (c : Bool) → filter (λ z. not (same y z)) (if c then [] else x ∷ []) ≡ (if c then [] else x ∷ [])
          stays true = refl
          stays false = pick_true (not (same y x)) (x ∷ []) [] (not_false (same y x) e)

  kept_by : (most : ℕ) (all : List A) (x : A) (few there : Bool) → nat_lt (length (take most all)) most ≡ few → list_any (λ y. same y x) all ≡ there →
      keep most same (take most all) x ≡ take most (all ++ (if there then [] else x ∷ []))
  kept_by most all x true true e f =
      let whole : take most all ≡ all = take_all most all (few_all most all e) in
      stays most (take most all) x (and_not (nat_lt (length (take most all)) most) (list_any (λ y. same y x) (take most all)) (ap (list_any (λ y. same y x)) whole ∙ f))
      ∙ ap (take most) (sym (append-nil all))
  kept_by most all x true false e f =
      let whole : take most all ≡ all = take_all most all (few_all most all e) in
      pick_true (nat_lt (length (take most all)) most && not (list_any (λ y. same y x) (take most all))) (take most all ++ x ∷ []) (take most all)
      ((λ i. e i && not (list_any (λ y. same y x) (whole i))) ∙ ap not f)
      ∙ ap (λ (ys : List A). ys ++ x ∷ []) whole ∙ sym (take_all most (all ++ x ∷ []) (omega (arith, length-append all (x ∷ []), fewer_all most all e)))
  kept_by most all x false there e f =
      stays most (take most all) x (ap (λ (b : Bool). b && not (list_any (λ y. same y x) (take most all))) e)
      ∙ sym (take-append-le most all (if there then [] else x ∷ []) (many_all most all e))

  keep_one : (most : ℕ) (xs : List A) (x : A) → keep most same (take most (firsts same xs)) x ≡ take most (firsts same (xs ++ x ∷ []))
  keep_one most xs x =
      kept_by most (firsts same xs) x (nat_lt (length (take most (firsts same xs))) most) (list_any (λ y. same y x) (firsts same xs)) refl refl ∙ ap (take most) (sym (firsts_push xs x))

  keep_more : (most : ℕ) (xs more : List A) → keep_all most same (take most (firsts same xs)) more ≡ take most (firsts same (xs ++ more))
  keep_more most xs [] = ap (λ (ys : List A). take most (firsts same ys)) (sym (append-nil xs))
  keep_more most xs (x ∷ more) =
      ap (λ (kept : List A). keep_all most same kept more) (keep_one most xs x)
      ∙ keep_more most (xs ++ x ∷ []) more
      ∙ ap (λ (ys : List A). take most (firsts same ys)) (append_assoc xs (x ∷ []) more)

  -- what is kept from nothing on
  pub kept_are_firsts : (most : ℕ) (xs : List A) → keep_all most same [] xs ≡ take most (firsts same xs)
  kept_are_firsts most xs = ap (λ (kept : List A). keep_all most same kept xs) (sym (take_none most)) ∙ keep_more most [] xs
    where
      take_none : (n : ℕ) → take n (firsts same []) ≡ []
      take_none zero = refl
      take_none (suc n) = refl
