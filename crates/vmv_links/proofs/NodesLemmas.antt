-- What a table of nodes spells, before and after a change of one node.
use Rattle.std.proofs.Common.{◌≡◌, ◌≢◌, inl, inr, ℕ, ◌+◌, ◌<◌, suc, zero, true, false, nat_eq, List, [], ◌∷◌, ◌++◌, Option, Some, None, length, map, replicate, set, take, drop, refl, sym, ap, subst, ◌∙◌, arith}
use Rattle.std.specs.Prelude.{Contains, is_some}
use Rattle.std.specs.List.{AllByRecursion, range_with_len}
use Rattle.std.specs.Cmp.{nat_eq_equiv}
use Rattle.std.proofs.lemmas.List.{length-set, length-map, length-replicate, get_or_past}
use Rattle.std.proofs.lemmas.List.FromFn.{length-map-range_with_len, get_or-map-range_with_len}
use Rattle.std.proofs.Common.{take_at, length-append}
use Rattle.std.proofs.Math.Seq.{get_or-append_seam}
use Rattle.std.specs.Cmp.{unsigned_Decides}
use Rattle.std.proofs.lemmas.Map.Made.{AllPairs-from_IsDistinct}
use Rattle.std.proofs.lemmas.Map.Keys.{IsDistinct-head}
use Rattle.std.proofs.lemmas.Bool.{eqb-true, eqb-false, true≢false, false≢true, cases_eq, cases_lt, lt-ltb, le-ltb}
use Rattle.std.proofs.lemmas.Map.Views.{Contains-from_any, list_any-from_Contains}
use Rattle.vmv_links.specs.declared.node.Node.{Node}
use Rattle.vmv_links.specs.Lists.{list_at, without, StandsIn, IsListed, IsApart, first_of}
use Rattle.vmv_links.specs.Nodes.{alone, node_at, after_at, before_at, owner_at, number_of, AreInside, IsPutIn, IsCutOut}
use Rattle.vmv_links.specs.Rings.{Path, walk, lists_of, Spells}
use Rattle.vmv_links.proofs.RingLemmas.{any_member, all_weaker, without_same, without_other}
use Rattle.vmv_links.proofs.SpellsLemmas.{lists_of-Spells, Spells-put, Spells-cut, Spells-alone}

-- what was written to all places of a table
pub written_back : (old new : List Node) (n : ℕ) → length new ≡ n → take n (new ++ drop (length new) old) ≡ new
written_back old new n len = take_at new (drop (length new) old) n len

-- as many lists as there are ends
pub length-lists_of : (N : ℕ → ℕ) (n k : ℕ) → length (lists_of N n k) ≡ k
length-lists_of N n k = length-map-range_with_len (λ l. walk N (n + l) n (n + l)) 0 k

-- a number stands in the list that its node knows, and in no other
pub StandsIn-owner : (N P : ℕ → ℕ) (O : ℕ → Option ℕ) (n : ℕ) (lists : List (List ℕ)) → Spells N P O n lists
    → (l x : ℕ) → (O x ≡ Some l → StandsIn lists l x) × (StandsIn lists l x → O x ≡ Some l)
StandsIn-owner N P O n lists spells l x = (
  λ owned. let found = spells.owners l x owned in (found.0, Contains-from_any eqb-true x (list_at lists l) found.1),
  λ stands. (any_member (λ y. (y < n) × (O y ≡ Some l)) x (list_at lists l) (spells.members l stands.0)
      (list_any-from_Contains nat_eq_equiv x (list_at lists l) stands.1)).1,
)

-- the node of a number that stands in no list knows no list
pub owner-unlisted : (N P : ℕ → ℕ) (O : ℕ → Option ℕ) (n : ℕ) (lists : List (List ℕ)) → Spells N P O n lists
    → (x : ℕ) → (IsListed lists x → ⊥) → O x ≡ None
owner-unlisted N P O n lists spells x unlisted =
    elim (O x) as (λ o. O x ≡ o → o ≡ None) [
      | None ↦ λ e. refl
      | Some l ↦ λ e. absurd (unlisted (l, (StandsIn-owner N P O n lists spells l x).0 e))
    ] refl

-- a number that is put into a list by its node
pub lists_of-put : (old new : List Node) (n k l x : ℕ)
    → Spells (after_at old) (before_at old) (owner_at old) n (lists_of (after_at old) n k)
    → l < k → x < n → owner_at old x ≡ None → IsPutIn old new x (n + l) l
    → Spells (after_at new) (before_at new) (owner_at new) n (lists_of (after_at new) n k)
    × (lists_of (after_at new) n k ≡ set (lists_of (after_at old) n k) l (list_at (lists_of (after_at old) n k) l ++ x ∷ []))
lists_of-put old new n k l x spells within small free put =
    let lists = lists_of (after_at old) n k in
    let count : length lists ≡ k = length-lists_of (after_at old) n k in
    let apart : x ≢ n + l = λ e. omega (arith, e) in
    let spelled = Spells-put (after_at old) (before_at old) (owner_at old) n lists spells (after_at new) (before_at new) (owner_at new) l x
    (omega (arith, count)) small free
    (λ end_apart last_apart. record {
      after_x = put.after_place;
      after_last = put.after_last last_apart;
      after_rest = put.after_rest;
      before_b = put.before_end;
      before_x = put.before_place apart;
      before_rest = put.before_rest;
    }) put.owner put.owner_rest in
    let lists' = set lists l (list_at lists l ++ x ∷ []) in
    let found : lists_of (after_at new) n k ≡ lists'
    = subst (λ j. lists_of (after_at new) n j ≡ lists') (length-set lists l (list_at lists l ++ x ∷ []) ∙ count)
    (lists_of-Spells (after_at new) (before_at new) (owner_at new) n lists' spelled) in
    (subst (λ ls. Spells (after_at new) (before_at new) (owner_at new) n ls) (sym found) spelled, found)

-- a number that is cut out of its list by its node
pub lists_of-cut : (old new : List Node) (n k l x : ℕ)
    → Spells (after_at old) (before_at old) (owner_at old) n (lists_of (after_at old) n k)
    → owner_at old x ≡ Some l → IsCutOut old new x
    → Spells (after_at new) (before_at new) (owner_at new) n (lists_of (after_at new) n k)
    × (lists_of (after_at new) n k ≡ map (without x) (lists_of (after_at old) n k))
lists_of-cut old new n k l x spells owned cut =
    let lists = lists_of (after_at old) n k in
    let spelled = Spells-cut (after_at old) (before_at old) (owner_at old) n lists spells (after_at new) (before_at new) (owner_at new) l x owned
    (record {
      after_before = cut.after_before;
      after_rest = cut.after_rest;
      before_after = cut.before_after;
      before_rest = cut.before_rest;
    }) cut.owner cut.owner_rest in
    let found : lists_of (after_at new) n k ≡ map (without x) lists
    = subst (λ j. lists_of (after_at new) n j ≡ map (without x) lists) (length-map lists (without x) ∙ length-lists_of (after_at old) n k)
    (lists_of-Spells (after_at new) (before_at new) (owner_at new) n (map (without x) lists) spelled) in
    (subst (λ ls. Spells (after_at new) (before_at new) (owner_at new) n ls) (sym found) spelled, found)

-- the links lead nowhere else after a change
pub AreInside-put : (old new : List Node) (x end l : ℕ) → AreInside old → x < length old → end < length old → IsPutIn old new x end l → AreInside new
AreInside-put old new x end l inside x_in end_in put y y_in =
    let y_old : y < length old = omega (arith, put.len) in
    let last : ℕ = before_at old end in
    let last_in : last < length old = (inside end end_in).1 in
    let after : after_at new y < length old = elim (cases_eq y x) [
      | inl e ↦ subst (λ z. after_at new z < length old) (sym e) (rw put.after_place end_in)
      | inr ne ↦ elim (cases_eq y last) [
        | inl at_last ↦ subst (λ z. after_at new z < length old) (sym at_last) (rw (put.after_last (λ e. ne (at_last ∙ e))) x_in)
        | inr rest ↦ rw (put.after_rest y ne rest) (inside y y_old).0
      ]
    ] in
    let before : before_at new y < length old = elim (cases_eq y end) [
      | inl e ↦ subst (λ z. before_at new z < length old) (sym e) (rw put.before_end x_in)
      | inr ne ↦ elim (cases_eq y x) [
        | inl at_x ↦ subst (λ z. before_at new z < length old) (sym at_x) (rw (put.before_place (λ e. ne (at_x ∙ e))) last_in)
        | inr rest ↦ rw (put.before_rest y rest ne) (inside y y_old).1
      ]
    ] in
    rw put.len (after, before)

pub AreInside-cut : (old new : List Node) (x : ℕ) → AreInside old → x < length old → IsCutOut old new x → AreInside new
AreInside-cut old new x inside x_in cut y y_in =
    let y_old : y < length old = omega (arith, cut.len) in
    let after : after_at new y < length old = elim (cases_eq y (before_at old x)) [
      | inl e ↦ subst (λ z. after_at new z < length old) (sym e) (rw cut.after_before (inside x x_in).0)
      | inr ne ↦ rw (cut.after_rest y ne) (inside y y_old).0
    ] in
    let before : before_at new y < length old = elim (cases_eq y (after_at old x)) [
      | inl e ↦ subst (λ z. before_at new z < length old) (sym e) (rw cut.before_after (inside x x_in).1)
      | inr ne ↦ rw (cut.before_rest y ne) (inside y y_old).1
    ] in
    rw cut.len (after, before)

-- the number behind a node is the first one of those that the links lead over
pub number_of-Path : (N P : ℕ → ℕ) (O : ℕ → Option ℕ) (n l a : ℕ) (xs : List ℕ)
    → AllByRecursion (λ y. (y < n) × (O y ≡ Some l)) xs → Path N P a xs (n + l) → number_of n (N a) ≡ first_of xs
number_of-Path N P O n l a [] members h = rw (h.0, le-ltb (n + l) n (omega arith)) refl
number_of-Path N P O n l a (x ∷ xs) members h = let small : x < n = members.0.0 in rw (h.0, lt-ltb x n small) refl

-- what stands between two parts of a list stands in it
pub Contains-between : (front : List ℕ) (x : ℕ) (back : List ℕ) → Contains (front ++ x ∷ back) x
Contains-between front x back = (length front, omega (arith, length-append front (x ∷ back)), get_or-append_seam front x back x)

pub all_behind : (Q : ℕ → Type 0) (front : List ℕ) (x : ℕ) (back : List ℕ) → AllByRecursion Q (front ++ x ∷ back) → AllByRecursion Q back
all_behind Q [] x back all = all.1
all_behind Q (y ∷ ys) x back all = all_behind Q ys x back all.1

-- a list in which x doesn't stand is the same without it
without_none : (x : ℕ) (xs : List ℕ) → AllByRecursion (λ y. y ≢ x) xs → without x xs ≡ xs
without_none x [] none = refl
without_none x (y ∷ ys) none = without_other x y ys none.0 ∙ ap (λ zs. y ∷ zs) (without_none x ys none.1)

-- lists that a change keeps one by one are kept
map_same : (f : List ℕ → List ℕ) (lists : List (List ℕ)) → ((l : ℕ) → l < length lists → f (list_at lists l) ≡ list_at lists l) → map f lists ≡ lists
map_same f [] same = refl
map_same f (xs ∷ lists) same =
    ap (λ ys. ys ∷ map f lists) (same 0 (omega arith))
    ∙ ap (λ ls. xs ∷ ls) (map_same f lists (λ l within. same (suc l) (omega (arith, within))))

-- a number that stands in no list is taken out of none
pub map-without_unlisted : (N P : ℕ → ℕ) (O : ℕ → Option ℕ) (n : ℕ) (lists : List (List ℕ)) → Spells N P O n lists
    → (x : ℕ) → O x ≡ None → map (without x) lists ≡ lists
map-without_unlisted N P O n lists spells x free =
    map_same (without x) lists
    (λ l within. without_none x (list_at lists l)
    (all_weaker (λ y. (y < n) × (O y ≡ Some l)) (λ y. y ≢ x) (list_at lists l) (λ y h e. let owned : O y ≡ Some l = h.1 in cc) (spells.members l within)))

-- nodes that are linked with themselves alone
pub node_at-alone : (m y : ℕ) → node_at (map alone (range_with_len 0 m)) y ≡ alone y
node_at-alone m y =
    elim (cases_lt y m) [
      | inl below ↦ get_or-map-range_with_len alone 0 m y y (alone y) below (omega arith)
      | inr past ↦ get_or_past (map alone (range_with_len 0 m)) y (alone y) (omega (arith, past, length-map-range_with_len alone 0 m))
    ]

pub lists_of-alone : (nodes : List Node) (n k : ℕ) → nodes ≡ map alone (range_with_len 0 (n + k))
    → Spells (after_at nodes) (before_at nodes) (owner_at nodes) n (lists_of (after_at nodes) n k)
    × (lists_of (after_at nodes) n k ≡ replicate k [])
lists_of-alone nodes n k is =
    let at : (y : ℕ) → node_at nodes y ≡ alone y = λ y. rw is (node_at-alone (n + k) y) in
    let spelled = Spells-alone (after_at nodes) (before_at nodes) (owner_at nodes) n k
    (λ y. ap (λ (v : Node). v.after) (at y)) (λ y. ap (λ (v : Node). v.before) (at y)) (λ y. ap (λ (v : Node). v.list) (at y)) in
    let found : lists_of (after_at nodes) n k ≡ replicate k []
    = subst (λ j. lists_of (after_at nodes) n j ≡ replicate k []) (length-replicate k [])
    (lists_of-Spells (after_at nodes) (before_at nodes) (owner_at nodes) n (replicate k []) spelled) in
    (subst (λ ls. Spells (after_at nodes) (before_at nodes) (owner_at nodes) n ls) (sym found) spelled, found)

pub AreInside-alone : (nodes : List Node) (m : ℕ) → nodes ≡ map alone (range_with_len 0 m) → AreInside nodes
AreInside-alone nodes m is y y_in =
    let at : node_at nodes y ≡ alone y = rw is (node_at-alone m y) in
    (rw (ap (λ (v : Node). v.after) at) y_in, rw (ap (λ (v : Node). v.before) at) y_in)

-- the numbers of the lists are small, none stands twice in a list, and none in two
pub IsApart-Spells : (N P : ℕ → ℕ) (O : ℕ → Option ℕ) (n : ℕ) (lists : List (List ℕ)) → Spells N P O n lists → IsApart (record { size = n; lists = lists })
IsApart-Spells N P O n lists spells =
    let owner = StandsIn-owner N P O n lists spells in
    record {
      small = λ l x stands. (any_member (λ y. (y < n) × (O y ≡ Some l)) x (list_at lists l) (spells.members l stands.0)
          (list_any-from_Contains nat_eq_equiv x (list_at lists l) stands.1)).0;
      once = λ l within. AllPairs-from_IsDistinct unsigned_Decides (list_at lists l) (spells.distinct l within);
      one_list = λ l m x here there.
          let one : O x ≡ Some l = (owner l x).1 here in
          let other : O x ≡ Some m = (owner m x).1 there in
          cc;
    }

-- an `Option` by the test of its variant
pub some_of : (o : Option ℕ) → is_some o ≡ true → (l : ℕ) × (o ≡ Some l)
some_of None is = absurd (false≢true is)
some_of (Some l) is = (l, refl)

pub none_of : (o : Option ℕ) → is_some o ≡ false → o ≡ None
none_of None is = refl
none_of (Some l) is = absurd (true≢false is)

-- the node of a number is its place
pub number_of-some : (n y x : ℕ) → Some x ≡ number_of n y → (x ≡ y) × (y < n)
number_of-some n y x is =
    elim (cases_lt y n) [
      | inl below ↦ let same : Some x ≡ Some y = is ∙ rw (lt-ltb y n below) refl in (cc, below)
      | inr past ↦ let none : Some x ≡ None = is ∙ rw (le-ltb y n past) refl in cc
    ]

-- a list by its first number
pub first_of-some : (x : ℕ) (xs : List ℕ) → Some x ≡ first_of xs → xs ≡ x ∷ drop 1 xs
first_of-some x [] is = cc
first_of-some x (y ∷ ys) is = let same : x ≡ y = cc in ap (λ z. z ∷ ys) (sym same)

-- lists of which a change keeps all but one
map_set : (f : List ℕ → List ℕ) (lists : List (List ℕ)) (l : ℕ) (ys : List ℕ) → l < length lists → f (list_at lists l) ≡ ys
    → ((m : ℕ) → m ≢ l → m < length lists → f (list_at lists m) ≡ list_at lists m) → map f lists ≡ set lists l ys
map_set f [] l ys within here others = absurd (omega (arith, within))
map_set f (xs ∷ lists) zero ys within here others =
    ap (λ zs. zs ∷ map f lists) here
    ∙ ap (λ ls. ys ∷ ls) (map_same f lists (λ m m_within. others (suc m) (λ e. omega (arith, e)) (omega (arith, m_within))))
map_set f (xs ∷ lists) (suc l) ys within here others =
    ap (λ zs. zs ∷ map f lists) (others 0 (λ e. omega (arith, e)) (omega arith))
    ∙ ap (λ ls. xs ∷ ls) (map_set f lists l ys (omega (arith, within)) here
    (λ m ne m_within. others (suc m) (λ e. ne (omega (arith, e))) (omega (arith, m_within))))

-- the first number of a list is taken out of it alone
pub map-without_first : (N P : ℕ → ℕ) (O : ℕ → Option ℕ) (n : ℕ) (lists : List (List ℕ)) → Spells N P O n lists
    → (l x : ℕ) (rest : List ℕ) → l < length lists → list_at lists l ≡ x ∷ rest
    → (O x ≡ Some l) × (map (without x) lists ≡ set lists l rest)
map-without_first N P O n lists spells l x rest within is =
    let members = rw is at (spells.members l within) in
    let distinct = rw is at (spells.distinct l within) in
    let owned : O x ≡ Some l = members.0.1 in
    let apart = all_weaker (λ y. nat_eq x y ≡ false) (λ y. y ≢ x) rest (λ y differ same. eqb-false x y differ (sym same)) (IsDistinct-head nat_eq x rest distinct) in
    let here : without x (list_at lists l) ≡ rest = ap (without x) is ∙ without_same x x rest refl ∙ without_none x rest apart in (
      owned,
      map_set (without x) lists l rest within here
          (λ m ne m_within. without_none x (list_at lists m)
          (all_weaker (λ y. (y < n) × (O y ≡ Some m)) (λ y. y ≢ x) (list_at lists m)
          (λ y h e. let other : O y ≡ Some m = h.1 in let same : m ≡ l = cc in ne same) (spells.members m m_within))),
    )
