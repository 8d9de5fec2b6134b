-- The lists of an entry, as its sites are gone through in order.
use Rattle.std.proofs.Common.{◌≡◌, ◌↔◌, ◌⊎◌, inl, inr, ⊎_elim, ℕ, zero, suc, ◌+◌, ◌<◌, ◌≤◌, Option, Some, None, List, [], ◌∷◌, ◌++◌, map, slice_get, refl, sym, ap, subst, arith, ◌∙◌}
use Rattle.std.specs.List.{Contains}
use Rattle.std.proofs.lemmas.List.Elements.{Contains-append_right, Contains-append_cases}
use Rattle.vmv_tree.specs.declared.name.Name.{Name}
use Rattle.vmv_tree.specs.declared.site.NamedSite.{NamedSite}
use Rattle.vmv_tree.specs.Run.{name_of}
use Rattle.vmv_snapshot.specs.Reaches.{Reaches}
use Rattle.vmv_snapshot.specs.Resolution.{Resolution, tree_of, procs_of, IsResolution}
use Rattle.vmv_snapshot.specs.Tables.{body_sites}
use Rattle.vmv_cert.specs.Tables.{Precedes, AreSitesOf}
use Rattle.vmv_check.proofs.Above.{procs_once}
use Rattle.vmv_check.proofs.Orders.{site_reached, site_last, site_first}
use Rattle.vmv_report.specs.declared.class.Class.{Class}
use Rattle.vmv_report.specs.declared.class.Class.TheVariants.{Clean, Hidden, Regression, Alarm}
use Rattle.vmv_report.proofs.Placing.{below_or_same}
use Rattle.vmv_report.specs.Work.{at, StandsBefore, AreAhead, IsNext, IsPassed, IsToldBy}

none_in : {X : Type 0} (x : X) → Contains [] x → ⊥
none_in x (k, within, is) = absurd (omega (arith, within))

append_assoc : {X : Type 0} (xs ys zs : List X) → (xs ++ ys) ++ zs ≡ xs ++ (ys ++ zs)
append_assoc [] ys zs = refl
append_assoc (x ∷ xs) ys zs = ap (λ l. x ∷ l) (append_assoc xs ys zs)

-- each element stands before the next
abbrev Rises : {X : Type 0} → (X → X → Type 0) → List X → Type 0
Rises P xs = (i : ℕ) (one other : _) → slice_get xs i ≡ Some one → slice_get xs (i + 1) ≡ Some other → P one other

further : {X : Type 0} (x : X) (xs : List X) (y : X) → Contains xs y → Contains (x ∷ xs) y
further x xs y (k, h, e) = (suc k, omega (arith, h), e)

rises_behind : {X : Type 0} (P : X → X → Type 0) (x : X) (xs : List X) → Rises P (x ∷ xs) → Rises P xs
rises_behind P x xs rises i one other a b = rises (suc i) one other a (subst (λ j. slice_get (x ∷ xs) j ≡ Some other) (let t : suc (i + 1) ≡ suc i + 1 = omega arith in t) b)

first_or_further : {X : Type 0} (x : X) (xs : List X) (y : X) → Contains (x ∷ xs) y → (x ≡ y) ⊎ Contains xs y
first_or_further x xs y (zero, h, e) = inl e
first_or_further x xs y (suc k, h, e) = inr (k, omega (arith, h), e)

rises_tail : {X : Type 0} (P : X → X → Type 0) (xs ys : List X) → Rises P (xs ++ ys) → Rises P ys
rises_tail P [] ys rises = rises
rises_tail P (x ∷ xs) ys rises = rises_tail P xs ys (rises_behind P x (xs ++ ys) rises)

-- equivalent causes tell the same class
pub told_by : {a r b q : Type 0} (class : Option Class) → a ↔ b → r ↔ q → IsToldBy a r class → IsToldBy b q class
told_by None f g t = (f.0 t.0, g.0 t.1)
told_by (Some Clean) f g t = λ y. t (f.1 y)
told_by (Some Hidden) f g t = (f.0 t.0, λ y. t.1 (g.1 y))
told_by (Some Regression) f g t = absurd t
told_by (Some Alarm) f g t = absurd t

still_before : (program : Resolution) (n m k : ℕ) (x : NamedSite) → StandsBefore program (at n m k) x → StandsBefore program (at n m (k + 1)) x
still_before program n m k x b = record { proc = b.proc; named = b.named; order = by b.order }
  where
    by : (b.proc < m) ⊎ ((b.proc ≡ m) × (x.index < k)) → (b.proc < m) ⊎ ((b.proc ≡ m) × (x.index < k + 1))
    by (inl h) = inl h
    by (inr (e, h)) = inr (e, omega (arith, h))

module _ (program : Resolution) (is : IsResolution program) (n : ℕ) (sites : List NamedSite) (are : AreSitesOf program n sites) where
  one_number : (p q : ℕ) (name : Name) → slice_get (map name_of (procs_of program)) p ≡ Some name → slice_get (map name_of (procs_of program)) q ≡ Some name → p ≡ q
  one_number p q name a b = procs_once (tree_of program) is.valid p q name a b

  -- no site stands before its own place
  not_itself : (m : ℕ) (site : NamedSite) → slice_get (map name_of (procs_of program)) m ≡ Some site.proc → StandsBefore program (at n m site.index) site → ⊥
  not_itself m site there b = by b.order
    where
      same : b.proc ≡ m
      same = one_number b.proc m site.proc b.named there

      by : (b.proc < m) ⊎ ((b.proc ≡ m) × (site.index < site.index)) → ⊥
      by (inl h) = absurd (omega (arith, h, same))
      by (inr (e, h)) = absurd (omega (arith, h))

  -- what precedes a site stands before its place
  precedes_before : (m : ℕ) (x site : NamedSite) → slice_get (map name_of (procs_of program)) m ≡ Some site.proc → Precedes program x site → StandsBefore program (at n m site.index) x
  precedes_before m x site there p = record { proc = p.first; named = p.first_is; order = by p.order }
    where
      same : p.second ≡ m
      same = one_number p.second m site.proc p.second_is there

      by : (p.first < p.second) ⊎ ((p.first ≡ p.second) × (x.index < site.index)) → (p.first < m) ⊎ ((p.first ≡ m) × (x.index < site.index))
      by (inl h) = inl (omega (arith, h, same))
      by (inr (e, h)) = inr (e ∙ same, h)

  -- what precedes a site that stands before a place stands before that too
  chain : (m k : ℕ) (x y : NamedSite) → Precedes program x y → StandsBefore program (at n m k) y → StandsBefore program (at n m k) x
  chain m k x y p b = record { proc = p.first; named = p.first_is; order = by p.order b.order }
    where
      same : p.second ≡ b.proc
      same = one_number p.second b.proc y.proc p.second_is b.named

      by : (p.first < p.second) ⊎ ((p.first ≡ p.second) × (x.index < y.index)) → (b.proc < m) ⊎ ((b.proc ≡ m) × (y.index < k)) → (p.first < m) ⊎ ((p.first ≡ m) × (x.index < k))
      by (inl h) (inl g) = inl (omega (arith, h, g, same))
      by (inl h) (inr (e, g)) = inl (omega (arith, h, e, same))
      by (inr (e, h)) (inl g) = inl (omega (arith, e, g, same))
      by (inr (e, h)) (inr (f, g)) = inr (e ∙ same ∙ f, omega (arith, h, g))

  -- the first site of a list that rises stands before the places of all others
  first_stands : (m : ℕ) (first : NamedSite) (rest : List NamedSite) (site : NamedSite) → slice_get (map name_of (procs_of program)) m ≡ Some site.proc → Rises (Precedes program) (first ∷ rest) → Contains rest site →
      StandsBefore program (at n m site.index) first
  first_stands m first [] site there rises c = absurd (none_in site c)
  first_stands m first (next ∷ rest) site there rises c =
      let one : Precedes program first next = rises 0 first next refl refl in
      ⊎_elim (λ (e : next ≡ site). precedes_before m first site there (subst (Precedes program first) e one))
      (λ (g : Contains rest site). chain m site.index first next one (first_stands m next rest site there (rises_behind (Precedes program) first (next ∷ rest) rises) g))
      (first_or_further next rest site c)

  next_in : (passed ahead : List NamedSite) (site : NamedSite) → sites ≡ passed ++ ahead → IsNext ahead site → Contains sites site
  next_in passed [] site parts next = absurd next
  next_in passed (first ∷ rest) site parts next =
      let here : Contains (first ∷ rest) site = (0, omega arith, next) in
      subst (λ (xs : List NamedSite). Contains xs site) (sym parts) (Contains-append_right passed (first ∷ rest) site here)

  -- where the site of the place is listed, it comes next
  in_next : (m : ℕ) (ahead : List NamedSite) (site : NamedSite) → slice_get (map name_of (procs_of program)) m ≡ Some site.proc → AreAhead program (at n m site.index) sites ahead → Contains sites site → IsNext ahead site
  in_next m ahead site there a c =
      ⊎_elim (λ (p : Contains a.passed site). absurd (not_itself m site there (a.before site p))) (λ (q : Contains ahead site). by ahead a.parts a.behind q)
      (Contains-append_cases a.passed ahead site (subst (λ (xs : List NamedSite). Contains xs site) a.parts c))
    where
      by : (ahead : List NamedSite) → sites ≡ a.passed ++ ahead → ((x : NamedSite) → Contains ahead x → StandsBefore program (at n m site.index) x → ⊥) → Contains ahead site → IsNext ahead site
      by [] parts behind q = absurd (none_in site q)
      by (first ∷ rest) parts behind q =
          ⊎_elim (λ (e : first ≡ site). e)
          (λ (further_in : Contains rest site).
          let rises : Rises (Precedes program) (a.passed ++ first ∷ rest) = subst (Rises (Precedes program)) parts are.sorted in
          absurd (behind first (0, omega arith, refl) (first_stands m first rest site there (rises_tail (Precedes program) a.passed (first ∷ rest) rises) further_in)))
          (first_or_further first rest site q)

  -- the site of the place is listed exactly where it comes next
  pub next_is_listed : (m : ℕ) (ahead : List NamedSite) (site : NamedSite) → slice_get (map name_of (procs_of program)) m ≡ Some site.proc → AreAhead program (at n m site.index) sites ahead → IsNext ahead site ↔ Contains sites site
  next_is_listed m ahead site there a = (next_in a.passed ahead site a.parts, in_next m ahead site there a)

  -- what stands before the next place stands before this one, or is its site
  before_or_it : (m : ℕ) (x site : NamedSite) → slice_get (map name_of (procs_of program)) m ≡ Some site.proc → StandsBefore program (at n m (site.index + 1)) x → StandsBefore program (at n m site.index) x ⊎ (x ≡ site)
  before_or_it m x site there b = by b.order
    where
      by : (b.proc < m) ⊎ ((b.proc ≡ m) × (x.index < site.index + 1)) → StandsBefore program (at n m site.index) x ⊎ (x ≡ site)
      by (inl h) = inl (record { proc = b.proc; named = b.named; order = inl h })
      by (inr (e, h)) =
          ⊎_elim (λ (l : x.index < site.index). inl (record { proc = b.proc; named = b.named; order = inr (e, l) }))
          (λ (s : x.index ≡ site.index).
          let at_m : slice_get (map name_of (procs_of program)) m ≡ Some x.proc = subst (λ (k : ℕ). slice_get (map name_of (procs_of program)) k ≡ Some x.proc) e b.named in
          let name : Some x.proc ≡ Some site.proc = sym at_m ∙ there in
          let proc : x.proc ≡ site.proc = cc in
          inr (λ t. record { proc = proc t; index = s t }))
          (below_or_same x.index site.index h)

  -- behind the place are those that are left when its site is passed
  pub passed_on : (m : ℕ) (ahead more : List NamedSite) (site : NamedSite) → slice_get (map name_of (procs_of program)) m ≡ Some site.proc → IsPassed ahead site more → AreAhead program (at n m site.index) sites ahead →
      AreAhead program (at n m (site.index + 1)) sites more
  passed_on m ahead more site there (inl e) a = record {
    passed = a.passed ++ site ∷ [];
    parts = a.parts ∙ ap (λ (xs : List NamedSite). a.passed ++ xs) e ∙ sym (append_assoc a.passed (site ∷ []) more);
    before = λ x c. ⊎_elim (λ (p : Contains a.passed x). still_before program n m site.index x (a.before x p)) (λ (q : Contains (site ∷ []) x). it x q) (Contains-append_cases a.passed (site ∷ []) x c);
    behind = λ x c b.
        let old : Contains ahead x = subst (λ (xs : List NamedSite). Contains xs x) (sym e) (further site more x c) in
        ⊎_elim (λ (l : StandsBefore program (at n m site.index) x). a.behind x old l) (λ (s : x ≡ site). again x c s) (before_or_it m x site there b);
  }
    where
      it : (x : NamedSite) → Contains (site ∷ []) x → StandsBefore program (at n m (site.index + 1)) x
      it x c =
          ⊎_elim
          (λ (s : site ≡ x). subst (λ (y : NamedSite). StandsBefore program (at n m (site.index + 1)) y) s (record { proc = m; named = there; order = inr (refl, omega arith) }))
          (λ (c : Contains [] x). absurd (none_in x c))
          (first_or_further site [] x c)

      -- a list that rises has no element twice
      again : (x : NamedSite) → Contains more x → x ≡ site → ⊥
      again x c s =
          let rises : Rises (Precedes program) (a.passed ++ ahead) = subst (Rises (Precedes program)) a.parts are.sorted in
          let left : Rises (Precedes program) (site ∷ more) = subst (Rises (Precedes program)) e (rises_tail (Precedes program) a.passed ahead rises) in
          not_itself m site there (first_stands m site more site there left (subst (λ (y : NamedSite). Contains more y) s c))
  passed_on m ahead more site there (inr (apart, e)) a = record {
    passed = a.passed;
    parts = a.parts ∙ ap (λ (xs : List NamedSite). a.passed ++ xs) (sym e);
    before = λ x c. still_before program n m site.index x (a.before x c);
    behind = λ x c b.
        let old : Contains ahead x = subst (λ (xs : List NamedSite). Contains xs x) e c in
        ⊎_elim (λ (l : StandsBefore program (at n m site.index) x). a.behind x old l)
        (λ (s : x ≡ site).
        let listed : Contains sites site = subst (λ (xs : List NamedSite). Contains xs site) (sym a.parts) (Contains-append_right a.passed ahead site (subst (λ (y : NamedSite). Contains ahead y) s old)) in
        apart (in_next m ahead site there a listed))
        (before_or_it m x site there b);
  }

  -- no listed site stands between the two places
  skipped : (m last : ℕ) (ahead : List NamedSite) → ((x : NamedSite) → Contains sites x → slice_get (map name_of (procs_of program)) m ≡ Some x.proc → x.index ≤ last) → AreAhead program (at n m (last + 1)) sites ahead →
      AreAhead program (at n (m + 1) 1) sites ahead
  skipped m last ahead few a = record {
    passed = a.passed;
    parts = a.parts;
    before = λ x c. let b = a.before x c in record { proc = b.proc; named = b.named; order = up x b };
    behind = λ x c b. let listed = subst (λ (xs : List NamedSite). Contains xs x) (sym a.parts) (Contains-append_right a.passed ahead x c) in a.behind x c (record { proc = b.proc; named = b.named; order = down x listed b });
  }
    where
      up : (x : NamedSite) (b : StandsBefore program (at n m (last + 1)) x) → (b.proc < m + 1) ⊎ ((b.proc ≡ m + 1) × (x.index < 1))
      up x b = by b.order
        where
          by : (b.proc < m) ⊎ ((b.proc ≡ m) × (x.index < last + 1)) → (b.proc < m + 1) ⊎ ((b.proc ≡ m + 1) × (x.index < 1))
          by (inl h) = inl (omega (arith, h))
          by (inr (e, h)) = inl (omega (arith, e))

      down : (x : NamedSite) → Contains sites x → (b : StandsBefore program (at n (m + 1) 1) x) → (b.proc < m) ⊎ ((b.proc ≡ m) × (x.index < last + 1))
      down x listed b = by b.order
        where
          by : (b.proc < m + 1) ⊎ ((b.proc ≡ m + 1) × (x.index < 1)) → (b.proc < m) ⊎ ((b.proc ≡ m) × (x.index < last + 1))
          by (inl h) =
              ⊎_elim (λ (l : b.proc < m). inl l)
              (λ (e : b.proc ≡ m).
              let most = few x listed (subst (λ (k : ℕ). slice_get (map name_of (procs_of program)) k ≡ Some x.proc) e b.named) in
              inr (e, omega (arith, most)))
              (below_or_same b.proc m h)
          by (inr (e, h)) = let from = site_first program n x (are.each x listed) in absurd (omega (arith, h, from))

  pub all_passed : (m last : ℕ) (ahead : List NamedSite) → slice_get (map body_sites (procs_of program)) m ≡ Some last → AreAhead program (at n m (last + 1)) sites ahead → AreAhead program (at n (m + 1) 1) sites ahead
  all_passed m last ahead count a = skipped m last ahead (λ x listed there. site_last program n m last x is there count (are.each x listed)) a

  pub none_there : (m : ℕ) (ahead : List NamedSite) → (Reaches (tree_of program) n m → ⊥) → AreAhead program (at n m 1) sites ahead → AreAhead program (at n (m + 1) 1) sites ahead
  none_there m ahead apart a = skipped m 0 ahead (λ x listed there. absurd (apart (site_reached program n m x is there (are.each x listed)))) a

  pub all_ahead : (ahead : List NamedSite) → ahead ≡ sites → AreAhead program (at n 0 1) sites ahead
  all_ahead ahead e = record {
    passed = [];
    parts = sym e;
    before = λ x c. absurd (none_in x c);
    behind = λ x c b. no x (subst (λ (xs : List NamedSite). Contains xs x) e c) b;
  }
    where
      no : (x : NamedSite) → Contains sites x → StandsBefore program (at n 0 1) x → ⊥
      no x listed b = by b.order
        where
          by : (b.proc < 0) ⊎ ((b.proc ≡ 0) × (x.index < 1)) → ⊥
          by (inl h) = absurd (omega (arith, h))
          by (inr (e, h)) = let from = site_first program n x (are.each x listed) in absurd (omega (arith, h, from))
