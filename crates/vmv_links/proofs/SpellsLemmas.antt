-- The lists that links spell, before and after a change of one number.
use Rattle.std.proofs.Common.{◌≡◌, ◌≢◌, inl, inr, ℕ, ◌+◌, ◌<◌, ◌≤◌, suc, zero, Bool, true, false, not, ◌||◌, nat_eq, List, [], ◌∷◌, ◌++◌, Option, Some, None, length, map, replicate, set, get_or-set_same, get_or-set_other, refl, sym, subst, ◌∙◌, arith}
use Rattle.std.specs.List.{AllByRecursion, IsDistinct, list_any}
use Rattle.std.specs.Cmp.{nat_eq_equiv}
use Rattle.std.proofs.Math.ListN.{get_or-map}
use Rattle.std.proofs.lemmas.List.{same_lists, get_or_default, length-set, length-map}
use Rattle.std.proofs.lemmas.List.FromFn.{length-map-range_with_len, get_or-map-range_with_len}
use Rattle.std.proofs.lemmas.List.Folds.{list_any-append}
use Rattle.std.proofs.lemmas.Bool.{eqb-true, eq-eqb, ne_eqb, cases_eq}
use Rattle.std.proofs.lemmas.Map.Keys.{IsDistinct-push}
use Rattle.std.proofs.lemmas.Map.Steps.{length-le_from_distinct_below}
use Rattle.std.proofs.lemmas.Map.Views.{any-filter_same}
use Rattle.vmv_links.specs.Lists.{list_at, without}
use Rattle.vmv_links.specs.Rings.{Path, walk, lists_of, Spells}
use Rattle.vmv_links.proofs.RingLemmas.{any_member, all_weaker, all_push, all_without, not_member, distinct_without, Path-last, Path-last_is, Path-member, walk-Path, IsPut, Path-put, Path-put_elsewhere, IsCut, Path-cut}

-- what holds of the list that is set and of each other list holds of each
set_each : (Q : ℕ → List ℕ → Type 0) (lists : List (List ℕ)) (l : ℕ) (ys : List ℕ) → l < length lists → Q l ys
    → ((m : ℕ) → m ≢ l → m < length lists → Q m (list_at lists m))
    → (m : ℕ) → m < length (set lists l ys) → Q m (list_at (set lists l ys) m)
set_each Q lists l ys within here others m m_within =
    let inside : m < length lists = omega (arith, length-set lists l ys) in
    elim (cases_eq m l) [
      | inl e ↦ subst (λ k. Q k (list_at (set lists l ys) k)) (sym e) (rw (get_or-set_same lists l ys [] within) here)
      | inr ne ↦ rw (get_or-set_other lists l m ys [] ne) (others m ne inside)
    ]

or_true : (b : Bool) → (b || true) ≡ true
or_true true = refl
or_true false = refl

-- what stands in a list stands there after a number was put at the end of one
any_put : (lists : List (List ℕ)) (l m x y : ℕ) → l < length lists → list_any (nat_eq y) (list_at lists m) ≡ true
    → list_any (nat_eq y) (list_at (set lists l (list_at lists l ++ x ∷ [])) m) ≡ true
any_put lists l m x y within any =
    let xs = list_at lists l in
    elim (cases_eq m l) [
      | inl e ↦
          let here : list_any (nat_eq y) xs ≡ true = subst (λ k. list_any (nat_eq y) (list_at lists k) ≡ true) e any in
          subst (λ k. list_any (nat_eq y) (list_at (set lists l (xs ++ x ∷ [])) k) ≡ true) (sym e)
          (rw (get_or-set_same lists l (xs ++ x ∷ []) [] within, list_any-append (nat_eq y) xs (x ∷ []), here) refl)
      | inr ne ↦ rw (get_or-set_other lists l m (xs ++ x ∷ []) [] ne) any
    ]

-- another number that stands in a list stands there without x
any_without : (x y : ℕ) (xs : List ℕ) → y ≢ x → list_any (nat_eq y) xs ≡ true → list_any (nat_eq y) (without x xs) ≡ true
any_without x y xs ne any =
    any-filter_same (nat_eq y) (λ z. not (nat_eq z x)) true (λ z same. rw (ne_eqb z x (λ e. ne (eqb-true y z same ∙ e))) refl) xs ∙ any

empty_at : (k l : ℕ) → list_at (replicate k []) l ≡ []
empty_at zero l = refl
empty_at (suc k) zero = refl
empty_at (suc k) (suc l) = empty_at k l

module _ (N P : ℕ → ℕ) (O : ℕ → Option ℕ) (n : ℕ) (lists : List (List ℕ)) (spells : Spells N P O n lists) where
  -- the numbers of a list are not its end
  apart_from_end : (l m : ℕ) → l < length lists → AllByRecursion (λ y. y ≢ n + m) (list_at lists l)
  apart_from_end l m within = all_weaker _ _ (list_at lists l) (λ y h e. let small : y < n = h.0 in absurd (omega (arith, e))) (spells.members l within)

  -- no list has more numbers than there are
  length-list : (l : ℕ) → l < length lists → length (list_at lists l) ≤ n
  length-list l within =
      length-le_from_distinct_below (list_at lists l) n (spells.distinct l within)
      (λ q any. (any_member (λ y. (y < n) × (O y ≡ Some l)) q (list_at lists l) (spells.members l within) any).0)

  -- a walk from each end finds its list
  pub lists_of-Spells : lists_of N n (length lists) ≡ lists
  lists_of-Spells =
      let found : ℕ → List ℕ = λ l. walk N (n + l) n (n + l) in
      same_lists (lists_of N n (length lists)) lists (length-map-range_with_len found 0 (length lists))
      (λ l d lt.
      let within : l < length lists = omega (arith, lt, length-map-range_with_len found 0 (length lists)) in
      get_or-map-range_with_len found 0 (length lists) l l d within (omega arith)
      ∙ walk-Path N P (n + l) (list_at lists l) (n + l) n (apart_from_end l l within) (length-list l within) (spells.ring l within)
      ∙ get_or_default lists l [] d within)

  -- where a number is put at the end of a list
  pub Spells-put : (N' P' : ℕ → ℕ) (O' : ℕ → Option ℕ) (l x : ℕ) → l < length lists → x < n → O x ≡ None
      → ((n + l ≢ x) → (P (n + l) ≢ x) → IsPut N P N' P' x (n + l)) → O' x ≡ Some l → ((y : ℕ) → y ≢ x → O' y ≡ O y)
      → Spells N' P' O' n (set lists l (list_at lists l ++ x ∷ []))
  Spells-put N' P' O' l x within small free put_at owner owner_rest =
      let b = n + l in
      let xs = list_at lists l in
      let not_x : (m y : ℕ) → O y ≡ Some m → y ≢ x = λ m y owned e. cc in
      let bx : b ≢ x = λ e. omega (arith, e) in
      let none_is_x : (m : ℕ) → m < length lists → AllByRecursion (λ y. y ≢ x) (list_at lists m)
      = λ m m_within. all_weaker _ _ (list_at lists m) (λ y h. not_x m y h.1) (spells.members m m_within) in
      let good : (m : ℕ) → m < length lists → AllByRecursion (λ y. (y ≢ x) × (y ≢ b)) (list_at lists m)
      = λ m m_within. all_weaker (λ y. (y < n) × (O y ≡ Some m)) (λ y. (y ≢ x) × (y ≢ b)) (list_at lists m)
      (λ y h. (not_x m y h.1, λ e. let y_small : y < n = h.0 in absurd (omega (arith, e)))) (spells.members m m_within) in
      let ring = spells.ring l within in
      let last_not_x : P b ≢ x = Path-last_is N P (λ y. y ≢ x) b xs b bx (none_is_x l within) ring in
      let put = put_at bx last_not_x in
      let last : N (P b) ≡ b = Path-last N P b xs b ring in
      record {
        ring = set_each (λ m ys. Path N' P' (n + m) ys (n + m)) lists l (xs ++ x ∷ []) within
            (Path-put N P N' P' x b put last b xs bx (good l within) ring)
            (λ m ne m_within.
            let end_apart : (n + m ≢ x) × (n + m ≢ b) = (λ e. absurd (omega (arith, e)), λ e. ne (omega (arith, e))) in
            Path-put_elsewhere N P N' P' x b put last (n + m) (list_at lists m) (n + m) end_apart (good m m_within) end_apart (spells.ring m m_within));
        members = set_each (λ m ys. AllByRecursion (λ y. (y < n) × (O' y ≡ Some m)) ys) lists l (xs ++ x ∷ []) within
            (all_push (λ y. (y < n) × (O' y ≡ Some l)) xs x
            (all_weaker _ _ xs (λ y h. (h.0, owner_rest y (not_x l y h.1) ∙ h.1)) (spells.members l within)) (small, owner))
            (λ m ne m_within. all_weaker _ _ (list_at lists m) (λ y h. (h.0, owner_rest y (not_x m y h.1) ∙ h.1)) (spells.members m m_within));
        owners = λ m y owned. elim (cases_eq y x) [
          | inl e ↦
              let same_list : l ≡ m = cc in
              subst (λ k. (k < length (set lists l (xs ++ x ∷ []))) × (list_any (nat_eq y) (list_at (set lists l (xs ++ x ∷ [])) k) ≡ true)) same_list (
                omega (arith, length-set lists l (xs ++ x ∷ [])),
                rw (get_or-set_same lists l (xs ++ x ∷ []) [] within, list_any-append (nat_eq y) xs (x ∷ []), eq-eqb y x e) (or_true (list_any (nat_eq y) xs)),
              )
          | inr ne ↦
              let was = spells.owners m y (sym (owner_rest y ne) ∙ owned) in (
                omega (arith, length-set lists l (xs ++ x ∷ []), was.0),
                any_put lists l m x y within was.1,
              )
        ];
        distinct = set_each (λ m ys. IsDistinct nat_eq ys) lists l (xs ++ x ∷ []) within
            (IsDistinct-push nat_eq_equiv xs x (spells.distinct l within) (not_member x xs (none_is_x l within)))
            (λ m ne m_within. spells.distinct m m_within);
      }

  -- where a number is cut out
  pub Spells-cut : (N' P' : ℕ → ℕ) (O' : ℕ → Option ℕ) (l x : ℕ) → O x ≡ Some l
      → IsCut N P N' P' x → O' x ≡ None → ((y : ℕ) → y ≢ x → O' y ≡ O y)
      → Spells N' P' O' n (map (without x) lists)
  Spells-cut N' P' O' l x owned cut owner owner_rest =
      let found = spells.owners l x owned in
      let small : x < n = (any_member (λ y. (y < n) × (O y ≡ Some l)) x (list_at lists l) (spells.members l found.0) found.1).0 in
      let tied = Path-member N P x (n + l) (list_at lists l) (n + l) (spells.ring l found.0) found.1 in
      let each : (Q : ℕ → List ℕ → Type 0) → ((m : ℕ) → m < length lists → Q m (without x (list_at lists m)))
      → (m : ℕ) → m < length (map (without x) lists) → Q m (list_at (map (without x) lists) m)
      = λ Q q m lt. rw (get_or-map (without x) lists m []) (q m (omega (arith, lt, length-map lists (without x)))) in
      record {
        ring = each (λ m ys. Path N' P' (n + m) ys (n + m))
            (λ m m_within. let apart : n + m ≢ x = λ e. omega (arith, e) in
            Path-cut N P N' P' x cut tied.0 tied.1 (n + m) (list_at lists m) (n + m) apart apart (spells.ring m m_within));
        members = each (λ m ys. AllByRecursion (λ y. (y < n) × (O' y ≡ Some m)) ys)
            (λ m m_within. all_without (λ y. (y < n) × (O y ≡ Some m)) (λ y. (y < n) × (O' y ≡ Some m)) x (list_at lists m)
            (λ y ne h. (h.0, owner_rest y ne ∙ h.1)) (spells.members m m_within));
        owners = λ m y is. elim (cases_eq y x) [
          | inl e ↦ cc
          | inr ne ↦
              let was = spells.owners m y (sym (owner_rest y ne) ∙ is) in (
                omega (arith, was.0, length-map lists (without x)),
                rw (get_or-map (without x) lists m []) (any_without x y (list_at lists m) ne was.1),
              )
        ];
        distinct = each (λ m ys. IsDistinct nat_eq ys) (λ m m_within. distinct_without x (list_at lists m) (spells.distinct m m_within));
      }

-- nodes that are linked with themselves alone spell empty lists
pub Spells-alone : (N P : ℕ → ℕ) (O : ℕ → Option ℕ) (n k : ℕ) → ((y : ℕ) → N y ≡ y) → ((y : ℕ) → P y ≡ y) → ((y : ℕ) → O y ≡ None)
    → Spells N P O n (replicate k [])
unfolding IsDistinct
Spells-alone N P O n k after before owner =
    let empty : (l : ℕ) → list_at (replicate k []) l ≡ [] = empty_at k in
    record {
      ring = λ l within. rw (empty l) (after (n + l), before (n + l));
      members = λ l within. rw (empty l) tt;
      owners = λ l y is. cc (owner y);
      distinct = λ l within. rw (empty l) tt;
    }
