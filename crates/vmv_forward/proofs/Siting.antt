-- The listed sites of an instance, added procedure by procedure, each in order.
use Rattle.std.proofs.Common.{◌≡◌, ◌↔◌, inl, inr, ⊎_elim, ℕ, zero, suc, ◌+◌, ◌<◌, ◌≤◌, Some, List, [], ◌∷◌, ◌++◌, length, map, slice_get, refl, sym, ap, subst, arith, ◌∙◌}
use Rattle.std.specs.List.{Contains}
use Rattle.std.proofs.lemmas.Bool.{cases_eq}
use Rattle.std.proofs.lemmas.List.Elements.{Contains-append_left, Contains-append_right, Contains-append_cases}
use Rattle.vmv_tree.specs.declared.name.Name.{Name}
use Rattle.vmv_tree.specs.declared.site.NamedSite.{NamedSite}
use Rattle.vmv_tree.specs.Run.{name_of}
use Rattle.vmv_tree.specs.Tree.{Item}
use Rattle.std.specs.Option.{option_map}
use Rattle.std.proofs.lemmas.Option.{slice_get-map}
use Rattle.vmv_snapshot.specs.Reaches.{Reaches}
use Rattle.vmv_snapshot.specs.Resolution.{Resolution, procs_of, tree_of}
use Rattle.vmv_snapshot.specs.Tables.{body_sites}
use Rattle.vmv_snapshot.proofs.Links.{map_at}
use Rattle.vmv_cert.specs.Tables.{IsSiteOf, Precedes}
use Rattle.vmv_check.proofs.Lists.{some_same, got_in, within, push_in, old_in, new_in}
use Rattle.vmv_check.proofs.Orders.{name_at}
use Rattle.vmv_forward.specs.Path.{Path}
use Rattle.vmv_forward.specs.Rows.{IsListed, IsSiteFrom, AreListedSites, AddsSites}
use Rattle.vmv_forward.proofs.Items.{either_part}

-- a listed site of this name with a number up to k
pub record IsFound (xs : List Path) (j p k : ℕ) (name : Name) (site : NamedSite) : Type 0 where
  pub named : site.proc ≡ name
  pub from : 1 ≤ site.index
  pub to : site.index ≤ k
  pub listed : IsListed xs j p site.index

-- those with numbers up to k were added
pub record Added (xs : List Path) (j p k : ℕ) (name : Name) (old new : List NamedSite) : Type 0 where
  pub more : List NamedSite
  pub is : new ≡ old ++ more
  pub each : (site : NamedSite) → Contains more site ↔ IsFound xs j p k name site
  pub order : (i : ℕ) (one other : NamedSite) → slice_get more i ≡ Some one → slice_get more (i + 1) ≡ Some other → one.index < other.index

none_in : (s : NamedSite) → Contains [] s → ⊥
none_in s (k, h, e) = absurd (omega (arith, h))

none_more : (xs : List NamedSite) → xs ≡ xs ++ []
none_more [] = refl
none_more (x ∷ xs) = ap (λ (ys : List NamedSite). x ∷ ys) (none_more xs)

more_on : (xs ys zs : List NamedSite) → (xs ++ ys) ++ zs ≡ xs ++ (ys ++ zs)
more_on [] ys zs = refl
more_on (x ∷ xs) ys zs = ap (λ (vs : List NamedSite). x ∷ vs) (more_on xs ys zs)

pub added_start : (xs : List Path) (j p : ℕ) (name : Name) (old : List NamedSite) → Added xs j p 0 name old old
added_start xs j p name old = record {
  more = [];
  is = none_more old;
  each = λ site. ((λ c. absurd (none_in site c)), (λ f. absurd (let a = f.from in let b = f.to in omega arith)));
  order = λ i one other a b. absurd (cc);
}

only : (x y : NamedSite) (p : ℕ) → slice_get (x ∷ []) p ≡ Some y → x ≡ y
only x y zero e = some_same e
only x y (suc p) e = absurd (cc)

last_order : (more : List NamedSite) (x : NamedSite) (k : ℕ) → ((s : NamedSite) → Contains more s → s.index ≤ k) → x.index ≡ k + 1 →
    ((i : ℕ) (one other : NamedSite) → slice_get more i ≡ Some one → slice_get more (i + 1) ≡ Some other → one.index < other.index) → (i : ℕ) (one other : NamedSite) → slice_get (more ++ x ∷ []) i ≡ Some one → slice_get (more ++ x ∷ []) (i + 1) ≡ Some other →
    one.index < other.index
last_order more x k few is order i one other a b =
    ⊎_elim
    (λ (g : slice_get more (i + 1) ≡ Some other).
    ⊎_elim (λ (f : slice_get more i ≡ Some one). order i one other f g)
    (λ (f : (d : ℕ) × (i ≡ length more + d) × (slice_get (x ∷ []) d ≡ Some one)). absurd (let h = within more (i + 1) other g in let e = f.1 in omega arith)) (either_part more (x ∷ []) i one a))
    (λ (g : (d : ℕ) × (i + 1 ≡ length more + d) × (slice_get (x ∷ []) d ≡ Some other)).
    (let d0 = within (x ∷ []) g.0 other g.2 in
    let e = g.1 in
    ⊎_elim (λ (f : slice_get more i ≡ Some one).
    (let h = few one (got_in more i one f) in
    let s : x ≡ other = only x other g.0 g.2 in
    let t : x.index ≡ other.index = ap (λ (v : NamedSite). v.index) s in
    omega arith))
    (λ (f : (d : ℕ) × (i ≡ length more + d) × (slice_get (x ∷ []) d ≡ Some one)). absurd (let h = f.1 in let d1 : g.0 < 1 = d0 in omega arith)) (either_part more (x ∷ []) i one a)))
    (either_part more (x ∷ []) (i + 1) other b)

same_site : (a b : NamedSite) → a.proc ≡ b.proc → a.index ≡ b.index → a ≡ b
same_site a b p i =
    let with : Name → ℕ → NamedSite = λ proc index. record { proc = proc; index = index } in
    ap (λ (x : Name). with x a.index) p ∙ ap (λ (x : ℕ). with b.proc x) i

pub added_push : (xs : List Path) (j p k : ℕ) (name : Name) (old mid new : List NamedSite) → Added xs j p k name old mid → IsListed xs j p (k + 1) → new ≡ mid ++ (record { proc = name; index = k + 1 }) ∷ [] → Added xs j p (k + 1) name old new
added_push xs j p k name old mid new a listed e =
    let x : NamedSite = record { proc = name; index = k + 1 } in
    record {
      more = a.more ++ x ∷ [];
      is = e ∙ (ap (λ (ss : List NamedSite). ss ++ x ∷ []) a.is ∙ more_on old a.more (x ∷ []));
      each = λ site. (
        (λ c. ⊎_elim (λ (h : Contains a.more site). (let f = (a.each site).0 h in record { named = f.named; from = f.from; to = (let t = f.to in omega arith); listed = f.listed }))
            (λ (h : x ≡ site). (let i : k + 1 ≡ site.index = ap (λ (v : NamedSite). v.index) h in
            record { named = sym (ap (λ (v : NamedSite). v.proc) h); from = omega arith; to = omega arith; listed = subst (λ n. IsListed xs j p n) i listed })) (push_in a.more x site c)),
        (λ f. ⊎_elim (λ (h : site.index ≡ k + 1). subst (Contains (a.more ++ x ∷ [])) (same_site x site (sym f.named) (sym h)) (new_in a.more x))
            (λ (h : site.index ≡ k + 1 → ⊥). (let t = f.to in old_in a.more x site ((a.each site).1 (record { named = f.named; from = f.from; to = omega arith; listed = f.listed })))) (cases_eq site.index (k + 1))),
      );
      order = last_order a.more x k (λ s c. ((a.each s).0 c).to) refl a.order;
    }

pub added_skip : (xs : List Path) (j p k : ℕ) (name : Name) (old mid new : List NamedSite) → Added xs j p k name old mid → (IsListed xs j p (k + 1) → ⊥) → new ≡ mid → Added xs j p (k + 1) name old new
added_skip xs j p k name old mid new a never e = record {
  more = a.more;
  is = e ∙ a.is;
  each = λ site. (
    (λ c. (let f = (a.each site).0 c in record { named = f.named; from = f.from; to = (let t = f.to in omega arith); listed = f.listed })),
    (λ f. ⊎_elim (λ (h : site.index ≡ k + 1). absurd (never (subst (λ n. IsListed xs j p n) h f.listed)))
        (λ (h : site.index ≡ k + 1 → ⊥). (let t = f.to in (a.each site).1 (record { named = f.named; from = f.from; to = omega arith; listed = f.listed }))) (cases_eq site.index (k + 1))),
  );
  order = a.order;
}

pub added_end : (program : Resolution) (xs : List Path) (j p k count : ℕ) (name : Name) (old new : List NamedSite) → slice_get (map name_of (procs_of program)) p ≡ Some name → slice_get (map body_sites (procs_of program)) p ≡ Some count → count ≤ k → k ≤ count →
    Added xs j p k name old new → AddsSites program xs j p old new
added_end program xs j p k count name old new named counted low high a = record {
  more = a.more;
  is = a.is;
  each = λ site. (
    (λ c. (let f = (a.each site).0 c in record { named = named ∙ ap (λ (x : Name). Some x) (sym f.named); count = count; count_is = counted; from = f.from; to = (let t = f.to in omega arith); listed = f.listed })),
    (λ f. (a.each site).1 (record { named = some_same (sym f.named ∙ named); from = f.from; to = (let t = f.to in let s : f.count ≡ count = some_same (sym f.count_is ∙ counted) in omega arith); listed = f.listed })),
  );
  order = a.order;
}

-- the listed sites of the first procedures
pub record Sited (program : Resolution) (xs : List Path) (j n p : ℕ) (list : List NamedSite) : Type 0 where
  pub each : (site : NamedSite) → Contains list site ↔ ((m : ℕ) × (m < p) × IsSiteOf program n m site × IsListed xs j m site.index)
  pub sorted : (i : ℕ) (one other : NamedSite) → slice_get list i ≡ Some one → slice_get list (i + 1) ≡ Some other → Precedes program one other

pub sited_start : (program : Resolution) (xs : List Path) (j n : ℕ) (list : List NamedSite) → list ≡ [] → Sited program xs j n 0 list
sited_start program xs j n list e = record {
  each = λ site. ((λ c. absurd (none_in site (subst (λ (ss : List NamedSite). Contains ss site) e c))), (λ f. absurd (let h = f.1 in omega arith)));
  sorted = λ i one other a b. absurd (none_in one (subst (λ (ss : List NamedSite). Contains ss one) e (got_in list i one a)));
}

pub sited_skip : (program : Resolution) (xs : List Path) (j n p : ℕ) (old new : List NamedSite) → Sited program xs j n p old → (Reaches (tree_of program) n p → ⊥) → new ≡ old → Sited program xs j n (p + 1) new
sited_skip program xs j n p old new s never e = record {
  each = λ site. (
    (λ c. (let f = (s.each site).0 (subst (λ (ss : List NamedSite). Contains ss site) e c) in (f.0, (let h = f.1 in omega arith), f.2, f.3))),
    (λ f. ⊎_elim (λ (h : f.0 ≡ p). absurd (never (subst (λ m. Reaches (tree_of program) n m) h f.2.reached)))
        (λ (h : f.0 ≡ p → ⊥). subst (λ (ss : List NamedSite). Contains ss site) (sym e) ((s.each site).1 (f.0, (let g = f.1 in omega arith), f.2, f.3))) (cases_eq f.0 p)),
  );
  sorted = λ i one other a b. s.sorted i one other (subst (λ (ss : List NamedSite). slice_get ss i ≡ Some one) e a) (subst (λ (ss : List NamedSite). slice_get ss (i + 1) ≡ Some other) e b);
}

site_there : (program : Resolution) (xs : List Path) (j n p : ℕ) (site : NamedSite) → Reaches (tree_of program) n p → IsSiteFrom program xs j p site → IsSiteOf program n p site
site_there program xs j n p site reached f =
    let a = map_at name_of (procs_of program) p site.proc f.named in
    let b = map_at body_sites (procs_of program) p f.count f.count_is in
    let same : b.0 ≡ a.0 = some_same (sym b.1 ∙ a.1) in
    let count : f.count ≡ body_sites a.0 = sym b.2 ∙ ap body_sites same in
    let to = f.to in
    record { item = a.0; place = a.1; named = a.2; from = f.from; to = omega arith; reached = reached }

counted : (program : Resolution) (p : ℕ) (item : Item) → slice_get (procs_of program) p ≡ Some item → slice_get (map body_sites (procs_of program)) p ≡ Some (body_sites item)
counted program p item at = slice_get-map body_sites (procs_of program) p ∙ ap (option_map body_sites) at

site_from : (program : Resolution) (xs : List Path) (j n p : ℕ) (site : NamedSite) → IsSiteOf program n p site → IsListed xs j p site.index → IsSiteFrom program xs j p site
site_from program xs j n p site s listed = record {
  named = name_at program p s.item site.proc s.place s.named;
  count = body_sites s.item;
  count_is = counted program p s.item s.place;
  from = s.from;
  to = s.to;
  listed = listed;
}

-- the order of old sites and of those of procedure p behind them
joined_order : (program : Resolution) (xs : List Path) (j n p : ℕ) (old more : List NamedSite) → Sited program xs j n p old → ((site : NamedSite) → Contains more site ↔ IsSiteFrom program xs j p site) →
    ((i : ℕ) (one other : NamedSite) → slice_get more i ≡ Some one → slice_get more (i + 1) ≡ Some other → one.index < other.index) → (i : ℕ) (one other : NamedSite) → slice_get (old ++ more) i ≡ Some one → slice_get (old ++ more) (i + 1) ≡ Some other →
    Precedes program one other
joined_order program xs j n p old more s each order i one other x y =
    ⊎_elim
    (λ (g : slice_get old (i + 1) ≡ Some other).
    ⊎_elim (λ (f : slice_get old i ≡ Some one). s.sorted i one other f g)
    (λ (f : (d : ℕ) × (i ≡ length old + d) × (slice_get more d ≡ Some one)). absurd (let h = within old (i + 1) other g in let e = f.1 in omega arith)) (either_part old more i one x))
    (λ (g : (d : ℕ) × (i + 1 ≡ length old + d) × (slice_get more d ≡ Some other)).
    (let b = (each other).0 (got_in more g.0 other g.2) in
    ⊎_elim (λ (f : slice_get old i ≡ Some one).
    (let a = (s.each one).0 (got_in old i one f) in
    record { first = a.0; second = p; first_is = name_at program a.0 a.2.item one.proc a.2.place a.2.named; second_is = b.named; order = inl a.1 }))
    (λ (f : (d : ℕ) × (i ≡ length old + d) × (slice_get more d ≡ Some one)).
    (let a = (each one).0 (got_in more f.0 one f.2) in
    let next : g.0 ≡ f.0 + 1 = (let u = g.1 in let v = f.1 in omega arith) in
    record { first = p; second = p; first_is = a.named; second_is = b.named; order = inr (refl, order f.0 one other f.2 (subst (λ d. slice_get more d ≡ Some other) next g.2)) })) (either_part old more i one x)))
    (either_part old more (i + 1) other y)

pub sited_more : (program : Resolution) (xs : List Path) (j n p : ℕ) (old new : List NamedSite) → Sited program xs j n p old → Reaches (tree_of program) n p → AddsSites program xs j p old new → Sited program xs j n (p + 1) new
sited_more program xs j n p old new s reached a = record {
  each = λ site. (
    (λ c. ⊎_elim (λ (h : Contains old site). (let f = (s.each site).0 h in (f.0, (let g = f.1 in omega arith), f.2, f.3)))
        (λ (h : Contains a.more site). (let f = (a.each site).0 h in (p, omega arith, site_there program xs j n p site reached f, f.listed))) (Contains-append_cases old a.more site (subst (λ (ss : List NamedSite). Contains ss site) a.is c))),
    (λ f. subst (λ (ss : List NamedSite). Contains ss site) (sym a.is)
        (⊎_elim (λ (h : f.0 ≡ p). Contains-append_right old a.more site ((a.each site).1 (site_from program xs j n p site (subst (λ m. IsSiteOf program n m site) h f.2) (subst (λ m. IsListed xs j m site.index) h f.3))))
        (λ (h : f.0 ≡ p → ⊥). Contains-append_left old a.more site ((s.each site).1 (f.0, (let g = f.1 in omega arith), f.2, f.3))) (cases_eq f.0 p))),
  );
  sorted = λ i one other x y. joined_order program xs j n p old a.more s a.each a.order i one other (subst (λ (ss : List NamedSite). slice_get ss i ≡ Some one) a.is x) (subst (λ (ss : List NamedSite). slice_get ss (i + 1) ≡ Some other) a.is y);
}

pub sited_end : (program : Resolution) (xs : List Path) (j p : ℕ) (path : Path) (list : List NamedSite) → slice_get xs j ≡ Some path → length (procs_of program) ≤ p → Sited program xs j path.proc.0 p list → AreListedSites program xs j list
sited_end program xs j p path list at end s = record {
  path = path;
  path_is = at;
  sites = record { each = λ site c. (let f = (s.each site).0 c in (f.0, f.2)); sorted = s.sorted };
  listed = λ site. (
    (λ c. (let f = (s.each site).0 c in (f.0, f.2, f.3))),
    (λ f. (let h = within (procs_of program) f.0 f.1.item f.1.place in (s.each site).1 (f.0, omega arith, f.1, f.2))),
  );
}
