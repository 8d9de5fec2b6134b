-- Sites of procedures, and their order.
use Rattle.std.proofs.Common.{◌≡◌, ◌⊎◌, inl, inr, ⊎_elim, ◌↔◌, IsTrue, nat_lt, ℕ, ◌<◌, ◌≤◌, Some, List, length, map, slice_get, sym, ap, subst, arith, ◌∙◌}
use Rattle.std.specs.List.{Contains}
use Rattle.std.specs.Option.{option_map}
use Rattle.std.proofs.lemmas.Option.{slice_get-map}
use Rattle.vmv_tree.specs.declared.name.Name.{Name}
use Rattle.vmv_tree.specs.declared.site.NamedSite.{NamedSite}
use Rattle.vmv_tree.specs.Tree.{Item}
use Rattle.vmv_tree.specs.Run.{name_of}
use Rattle.vmv_snapshot.specs.Resolution.{Resolution, tree_of, procs_of, IsResolution}
use Rattle.vmv_snapshot.specs.Reaches.{Reaches}
use Rattle.vmv_snapshot.specs.Tables.{body_sites}
use Rattle.vmv_snapshot.proofs.Links.{map_at}
use Rattle.vmv_cert.specs.Tables.{IsSiteOf, Precedes}
use Rattle.vmv_check.proofs.Lists.{some_same, within, got_in}
use Rattle.vmv_check.proofs.Above.{procs_once}

pub map_within : {A B : Type 0} (f : A → B) (xs : List A) (n : ℕ) (y : B) → slice_get (map f xs) n ≡ Some y → n < length xs
map_within f xs n y e = let a = map_at f xs n y e in within xs n a.0 a.1

pub name_at : (program : Resolution) (m : ℕ) (item : Item) (name : Name) → slice_get (procs_of program) m ≡ Some item → name_of item ≡ name → slice_get (map name_of (procs_of program)) m ≡ Some name
name_at program m item name at is = slice_get-map name_of (procs_of program) m ∙ (ap (option_map name_of) at ∙ ap (λ x. Some x) is)

pub site_is : (program : Resolution) (n m last : ℕ) (site : NamedSite) → slice_get (map name_of (procs_of program)) m ≡ Some site.proc → slice_get (map body_sites (procs_of program)) m ≡ Some last →
    1 ≤ site.index → site.index ≤ last → Reaches (tree_of program) n m → IsSiteOf program n m site
site_is program n m last site at count from to reached =
    let a = map_at name_of (procs_of program) m site.proc at in
    let b = map_at body_sites (procs_of program) m last count in
    let same : b.0 ≡ a.0 = some_same (sym b.1 ∙ a.1) in
    record { item = a.0; place = a.1; named = a.2; from = from; to = subst (λ k. site.index ≤ k) (sym b.2 ∙ ap body_sites same) to; reached = reached }

pub same_place : (program : Resolution) (n m : ℕ) (site : NamedSite) → IsResolution program → slice_get (map name_of (procs_of program)) m ≡ Some site.proc → (p : ℕ) → IsSiteOf program n p site → p ≡ m
same_place program n m site is at p s = procs_once (tree_of program) is.valid p m site.proc (name_at program p s.item site.proc s.place s.named) at

pub site_reached : (program : Resolution) (n m : ℕ) (site : NamedSite) → IsResolution program → slice_get (map name_of (procs_of program)) m ≡ Some site.proc → ((p : ℕ) × IsSiteOf program n p site) → Reaches (tree_of program) n m
site_reached program n m site is at (p, s) = subst (λ k. Reaches (tree_of program) n k) (same_place program n m site is at p s) s.reached

pub site_last : (program : Resolution) (n m last : ℕ) (site : NamedSite) → IsResolution program → slice_get (map name_of (procs_of program)) m ≡ Some site.proc → slice_get (map body_sites (procs_of program)) m ≡ Some last →
    ((p : ℕ) × IsSiteOf program n p site) → site.index ≤ last
site_last program n m last site is at count (p, s) =
    let b = map_at body_sites (procs_of program) m last count in
    let e = same_place program n m site is at p s in
    let here : slice_get (procs_of program) m ≡ Some s.item = subst (λ k. slice_get (procs_of program) k ≡ Some s.item) e s.place in
    let same : b.0 ≡ s.item = some_same (sym b.1 ∙ here) in
    subst (λ k. site.index ≤ k) (ap body_sites (sym same) ∙ b.2) s.to

pub site_first : (program : Resolution) (n : ℕ) (site : NamedSite) → ((p : ℕ) × IsSiteOf program n p site) → 1 ≤ site.index
site_first program n site (p, s) = s.from

pub site_named : (program : Resolution) (n : ℕ) (site : NamedSite) → ((p : ℕ) × IsSiteOf program n p site) → Contains (map name_of (procs_of program)) site.proc
site_named program n site (p, s) = got_in (map name_of (procs_of program)) p site.proc (name_at program p s.item site.proc s.place s.named)

pub order_of : (program : Resolution) (m m' : ℕ) (one other : NamedSite) → IsResolution program → slice_get (map name_of (procs_of program)) m ≡ Some one.proc → slice_get (map name_of (procs_of program)) m' ≡ Some other.proc →
    Precedes program one other → (m < m') ⊎ ((m ≡ m') × (one.index < other.index))
order_of program m m' one other is a b p =
    let e = procs_once (tree_of program) is.valid p.first m one.proc p.first_is a in
    let e' = procs_once (tree_of program) is.valid p.second m' other.proc p.second_is b in
    subst (λ k. (k < m') ⊎ ((k ≡ m') × (one.index < other.index))) e (subst (λ k. (p.first < k) ⊎ ((p.first ≡ k) × (one.index < other.index))) e' p.order)

pub by_index : (program : Resolution) (m m' : ℕ) (one other : NamedSite) → IsResolution program → slice_get (map name_of (procs_of program)) m ≡ Some one.proc → slice_get (map name_of (procs_of program)) m' ≡ Some other.proc →
    m ≡ m' → Precedes program one other → one.index < other.index
by_index program m m' one other is a b same p =
    ⊎_elim (λ (h : m < m'). absurd (omega (arith, h, same))) (λ (h : (m ≡ m') × (one.index < other.index)). h.1) (order_of program m m' one other is a b p)

pub by_place : (program : Resolution) (m m' : ℕ) (one other : NamedSite) → IsResolution program → slice_get (map name_of (procs_of program)) m ≡ Some one.proc → slice_get (map name_of (procs_of program)) m' ≡ Some other.proc →
    (m ≡ m' → ⊥) → Precedes program one other → m < m'
by_place program m m' one other is a b apart p =
    ⊎_elim (λ (h : m < m'). h) (λ (h : (m ≡ m') × (one.index < other.index)). absurd (apart h.0)) (order_of program m m' one other is a b p)

lt_of : (a b : ℕ) → IsTrue (nat_lt a b) → a < b
lt_of a b t = grind arith

of_lt : (a b : ℕ) → a < b → IsTrue (nat_lt a b)
of_lt a b h = grind arith

pub same_told : (program : Resolution) (m m' : ℕ) (one other : NamedSite) → IsResolution program → slice_get (map name_of (procs_of program)) m ≡ Some one.proc → slice_get (map name_of (procs_of program)) m' ≡ Some other.proc →
    m ≡ m' → IsTrue (nat_lt one.index other.index) ↔ Precedes program one other
same_told program m m' one other is a b same = (
  λ t. record { first = m; second = m'; first_is = a; second_is = b; order = inr (same, lt_of one.index other.index t) },
  λ p. of_lt one.index other.index (by_index program m m' one other is a b same p),
)

pub apart_told : (program : Resolution) (m m' : ℕ) (one other : NamedSite) → IsResolution program → slice_get (map name_of (procs_of program)) m ≡ Some one.proc → slice_get (map name_of (procs_of program)) m' ≡ Some other.proc →
    (m ≡ m' → ⊥) → IsTrue (nat_lt m m') ↔ Precedes program one other
apart_told program m m' one other is a b apart = (
  λ t. record { first = m; second = m'; first_is = a; second_is = b; order = inl (lt_of m m' t) },
  λ p. of_lt m m' (by_place program m m' one other is a b apart p),
)
