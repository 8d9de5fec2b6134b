-- What is shown of the entries, one after another.
use Rattle.std.proofs.Common.{◌≡◌, ◌↔◌, inl, inr, ⊎_elim, ℕ, suc, ◌+◌, ◌<◌, true, Some, List, length, map, take, drop, get_or, slice_get, refl, sym, subst, ◌∙◌}
use Rattle.std.specs.List.{Contains}
use Rattle.vmv_tree.specs.declared.name.Name.{Name}
use Rattle.vmv_tree.specs.declared.site.NamedSite.{NamedSite}
use Rattle.vmv_tree.specs.declared.tree.Param.{Param}
use Rattle.vmv_tree.specs.Tree.{Item, outside, helper, entry, Body}
use Rattle.vmv_tree.specs.Run.{name_of}
use Rattle.vmv_snapshot.specs.Procs.{is_entry}
use Rattle.vmv_snapshot.specs.Resolution.{Resolution, IsResolution, procs_of}
use Rattle.vmv_snapshot.proofs.Zips.{take_one_more}
use Rattle.vmv_assumption.specs.Whole.{whole}
use Rattle.vmv_assumption.specs.Assumed.{Assumed, cond_of}
use Rattle.vmv_cert.specs.declared.row.Row.{Row}
use Rattle.vmv_cert.specs.Tables.{IsEntry, IsRowAbove, ranges_of}
use Rattle.vmv_cert.specs.Places.{Place, IsPlace, site_at}
use Rattle.vmv_check.proofs.Lists.{some_same, push_in}
use Rattle.vmv_check.proofs.Orders.{name_at}
use Rattle.vmv_proof.specs.declared.proof.Shown.{Shown}
use Rattle.vmv_proof_check.specs.declared.claims.Part.TheVariants.{Plain, Given}
use Rattle.vmv_proof_check.specs.declared.claims.ProofRefused.{ProofRefused}
use Rattle.vmv_proof_check.specs.declared.claims.ProofRefused.TheVariants.{At, Memory}
use Rattle.vmv_proof_check.specs.declared.tally.Checking.{Checking}
use Rattle.vmv_proof_check.specs.declared.tally.Lists.{Lists}
use Rattle.vmv_proof_check.specs.Parts.{passes, fails, HasRow, IsTableTried, PlainTurns, IsShaped}
use Rattle.vmv_proof_check.specs.Counts.{LeavesOut}
use Rattle.vmv_proof_check.specs.Work.{IsTableListed, IsTableFailing, IsTableFailed, AreTablesListed, IsEntryRefused, IsWellUnder, IsShownAt, IsShownRefused, AreListsFor}
use Rattle.vmv_proof_check.proofs.Lists.{split_here}
use Rattle.vmv_proof_check.proofs.Shaping.{shown_once}

-- an entry by its number
abbrev AtEntry : Resolution → ℕ → Name → List Param → Body → Type 0
AtEntry revision n name params body = slice_get (procs_of revision) n ≡ Some (entry name params body)

-- a table whose sites are told passes
listed_passes : (revision : Resolution) (assumed : Assumed) (n : ℕ) (name : Name) (params : List Param) (body : Body) (rows : List Row) (sites : List NamedSite) → AtEntry revision n name params body → IsTableListed revision assumed n rows sites → IsTableTried revision assumed name rows passes
listed_passes revision assumed n name params body rows sites at listed = let t = listed params (name, body, at) in (n, params, (body, at), (t.0, t.1.some))

failing_fails : (revision : Resolution) (assumed : Assumed) (n : ℕ) (name : Name) (params : List Param) (body : Body) (rows : List Row) (row step : ℕ) → AtEntry revision n name params body → IsTableFailing revision assumed n rows row step → IsTableTried revision assumed name rows (fails row step)
failing_fails revision assumed n name params body rows row step at failing = (n, params, (body, at), failing params (name, body, at))

-- the rows that a table leaves out are those whose sites it doesn't list
left_out_is : (revision : Resolution) (assumed : Assumed) (n : ℕ) (rows : List Row) (sites : List NamedSite) (place : Place) → IsTableListed revision assumed n rows sites → IsPlace revision place → place.entry ≡ n → LeavesOut revision place rows ↔ (Contains sites (site_at revision place) → ⊥)
left_out_is revision assumed n rows sites place listed is same = (
  λ (params, there, (row, among, above, unlisted)) inside.
      let t = listed params (subst (λ (k : ℕ). IsEntry revision k params) same there) in
      unlisted (t.1.listed (site_at revision place) inside row among (subst (λ (k : ℕ). IsRowAbove revision k (ranges_of params) row) same above)),
  λ n.
      let there = is.entry in
      let t = listed is.params (subst (λ (k : ℕ). IsEntry revision k is.params) same there) in
      (is.params, there, subst (λ (k : ℕ). HasRow revision k (ranges_of is.params) (λ row. Contains row.unproved (site_at revision place) → ⊥) rows) (sym same) (t.1.left_out (site_at revision place) n)),
)

module _ (checking : Checking) (n : ℕ) (s : Shown) (params : List Param) (body : Body) (is : IsResolution checking.revision.now) (shaped : IsShaped checking.revision.now checking.shown.now)
    (at : AtEntry checking.revision.now n s.entry params body) (there : Contains checking.shown.now s) (whole_is : (name : Name) → cond_of checking.whole.now name ≡ whole) where
  abbrev R : Resolution
  R = checking.revision.now

  -- whatever the outside names answer
  whole_same : cond_of checking.whole.now ≡ (λ name. whole)
  whole_same = λ i name. whole_is name i

  named_there : (place : Place) → place.entry ≡ n → slice_get (map name_of (procs_of R)) place.entry ≡ Some s.entry
  named_there place same = subst (λ (k : ℕ). slice_get (map name_of (procs_of R)) k ≡ Some s.entry) (sym same) (name_at R n (entry s.entry params body) s.entry at refl)

  same_shown : (place : Place) (t : Shown) → place.entry ≡ n → Contains checking.shown.now t → slice_get (map name_of (procs_of R)) place.entry ≡ Some t.entry → t ≡ s
  same_shown place t same among named = shown_once R checking.shown.now t s is shaped among there (some_same (sym named ∙ named_there place same))

  -- the lists tell which rows of the entry the tables show
  pub lists_for : (lists : Lists) → AreTablesListed checking n s lists → AreListsFor R checking.shown.now n lists
  lists_for lists are = record {
    plain = λ place p same.
        (let law = left_out_is R (cond_of checking.whole.now) n s.plain.rows lists.plain place are.plain p same in (
          λ (t, (among, named), out). law.0 (subst (λ (u : Shown). LeavesOut R place u.plain.rows) (same_shown place t same among named) out),
          λ no. (s, (there, named_there place same), law.1 no),
        ));
    given = λ place p same.
        (let law = left_out_is R (cond_of checking.cut.now) n s.given.rows lists.given place are.given p same in (
          λ (t, (among, named), out). law.0 (subst (λ (u : Shown). LeavesOut R place u.given.rows) (same_shown place t same among named) out),
          λ no. (s, (there, named_there place same), law.1 no),
        ));
  }

  plain_passes : (sites : List NamedSite) → IsTableListed R (cond_of checking.whole.now) n s.plain.rows sites → PlainTurns R s passes
  plain_passes sites listed = subst (λ (a : Assumed). IsTableTried R a s.entry s.plain.rows passes) whole_same (listed_passes R (cond_of checking.whole.now) n s.entry params body s.plain.rows sites at listed)

  -- both tables pass
  pub well_here : (lists : Lists) → AreTablesListed checking n s lists → IsWellUnder checking s
  well_here lists are = (plain_passes lists.plain are.plain, listed_passes R (cond_of checking.cut.now) n s.entry params body s.given.rows lists.given at are.given)

  -- the first that fails
  pub refused_entry : (why : ProofRefused) → IsShownAt checking s → IsEntryRefused checking n s why → IsShownRefused checking why
  refused_entry Memory here told = tt
  refused_entry (At part row step) here (inl (e, failing)) =
      (s, here, inl (e, subst (λ (a : Assumed). IsTableTried R a s.entry s.plain.rows (fails row step)) whole_same (failing_fails R (cond_of checking.whole.now) n s.entry params body s.plain.rows row step at failing)))
  refused_entry (At part row step) here (inr (e, (sites, listed), failing)) =
      (s, here, inr (e, plain_passes sites listed, failing_fails R (cond_of checking.cut.now) n s.entry params body s.given.rows row step at failing))

-- an item with the mark of an entry is one
pub entry_of : (revision : Resolution) (n : ℕ) (item : Item) (name : Name) → slice_get (procs_of revision) n ≡ Some item → is_entry item ≡ true → name_of item ≡ name → (params : List Param) × (body : Body) × AtEntry revision n name params body
entry_of revision n (outside f arity) name at e same = absurd (cc)
entry_of revision n (helper f params body) name at e same = absurd (cc)
entry_of revision n (entry f params body) name at e same = (params, body, subst (λ (x : Name). AtEntry revision n x params body) same at)

-- the well shown entries, one more
pub well_next : (checking : Checking) (shown : List Shown) (next : ℕ) (s : Shown) → next < length shown → s ≡ get_or shown next s → ((t : Shown) → Contains (take next shown) t → IsWellUnder checking t) → IsWellUnder checking s → (t : Shown) → Contains (take (next + 1) shown) t → IsWellUnder checking t
well_next checking shown next s inside is all one t there =
    ⊎_elim (λ (o : Contains (take next shown) t). all t o) (λ (e : s ≡ t). subst (λ (u : Shown). IsWellUnder checking u) e one)
    (push_in (take next shown) s t (subst (λ (ss : List Shown). Contains ss t) (take_one_more shown next s inside is) there))

pub shown_at : (checking : Checking) (next : ℕ) (s : Shown) → next < length checking.shown.now → s ≡ get_or checking.shown.now next s → ((t : Shown) → Contains (take next checking.shown.now) t → IsWellUnder checking t) → IsShownAt checking s
shown_at checking next s inside is all = record {
  before = take next checking.shown.now;
  after = drop (suc next) checking.shown.now;
  parts = split_here checking.shown.now next s inside is;
  passed = all;
}

pub plain_refused : (checking : Checking) (n : ℕ) (s : Shown) (why : ProofRefused) → IsTableFailed checking.revision.now (cond_of checking.whole.now) n s.plain.rows (Plain s.entry) why → IsEntryRefused checking n s why
plain_refused checking n s Memory failed = tt
plain_refused checking n s (At part row step) (e, failing) = inl (e, failing)

pub given_refused : (checking : Checking) (n : ℕ) (s : Shown) (sites : List NamedSite) (why : ProofRefused) → IsTableListed checking.revision.now (cond_of checking.whole.now) n s.plain.rows sites →
    IsTableFailed checking.revision.now (cond_of checking.cut.now) n s.given.rows (Given s.entry) why → IsEntryRefused checking n s why
given_refused checking n s sites Memory listed failed = tt
given_refused checking n s sites (At part row step) listed (e, failing) = inr (e, (sites, listed), failing)
