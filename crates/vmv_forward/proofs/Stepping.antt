-- From an instance to those that it calls, one after another.
use Rattle.std.proofs.Common.{◌≡◌, ℕ, zero, suc, ◌-◌, ◌<◌, ◌≤◌, Bool, true, false, Some, List, [], ◌∷◌, length, slice_get, get_or, IsTrue, IsFalse, refl, sym, subst, arith, ◌∙◌}
use Rattle.std.proofs.lemmas.Slice.Zip.{AllZip-long}
use Rattle.std.specs.List.{Contains}
use Rattle.std.specs.Prelude.{◌↔◌, map}
use Rattle.vmv_tree.specs.declared.name.Name.{Name}
use Rattle.vmv_tree.specs.declared.site.NamedSite.{NamedSite}
use Rattle.vmv_tree.specs.Run.{name_of}
use Rattle.vmv_cond.specs.declared.cond.Cond.{Cond}
use Rattle.vmv_snapshot.specs.Resolution.{Resolution, procs_of}
use Rattle.vmv_cert.specs.declared.row.Reach.{Reach}
use Rattle.vmv_cert.specs.Tables.{IsSiteOf, AreSitesOf}
use Rattle.vmv_snapshot.specs.declared.code.ProcId.{ProcId}
use Rattle.vmv_snapshot.specs.View.{code_of}
use Rattle.vmv_zone.specs.declared.zone.Zone.{Zone}
use Rattle.vmv_zone.specs.Zone.{vars_of, NotBottom, IsNormal}
use Rattle.vmv_check.specs.Walker.{HasParams}
use Rattle.vmv_check.proofs.Lists.{some_same, within, item_at, at_place}
use Rattle.vmv_pass.specs.Callees.{block_callees}
use Rattle.vmv_forward.specs.Path.{Path}
use Rattle.vmv_forward.specs.Rounds.{Quest, AreKept, HasInput, HasResult}
use Rattle.vmv_forward.specs.Rows.{IsListed, IsReached, IsReachOf, IsRowOf, AreListedSites}
use Rattle.vmv_forward.proofs.Instances.{known_at, call_of, input_once}

pub got : {X : Type 0} (xs : List X) (n : ℕ) (d : X) → n < length xs → slice_get xs n ≡ Some (get_or xs n d)
got [] n d h = absurd (omega arith)
got (x ∷ xs) zero d h = refl
got (x ∷ xs) (suc n) d h = got xs n d (omega (arith, h))

-- there is an input for each call
pub as_many : (q : Quest) (xs : List Path) (j : ℕ) (path : Path) → AreKept q xs → 1 ≤ j → slice_get xs j ≡ Some path → length path.callees ≡ length path.inputs
as_many q xs j path kept one at =
    let k = known_at q xs j path kept one at in
    let Fit = λ (callee : ProcId). λ (z : Zone). HasParams q.program callee.0 (vars_of z) × IsNormal z in
    let long : length path.inputs ≡ length (block_callees (code_of k.1).block) = AllZip-long Fit (block_callees (code_of k.1).block) path.inputs k.2.fits.inputs in
    k.2.count ∙ sym long

-- the c-th instance that is called
pub record Next (xs : List Path) (j : ℕ) (path : Path) (c next : ℕ) : Type 0 where
  pub is : slice_get path.callees c ≡ Some next
  pub later : j < next
  pub one : 1 ≤ next
  pub inside : next < length xs
  pub input : c < length path.inputs
  pub to : Path
  pub there : slice_get xs next ≡ Some to
  pub caller_is : to.caller ≡ j
  pub place_is : to.place ≡ c

pub next_of : (q : Quest) (xs : List Path) (j : ℕ) (path : Path) (items : List ℕ) (c : ℕ) → AreKept q xs → 1 ≤ j → slice_get xs j ≡ Some path → items ≡ path.callees → c < length items → Next xs j path c (get_or items c 0)
next_of q xs j path items c kept one at same h =
    let next = get_or items c 0 in
    let is : slice_get path.callees c ≡ Some next = subst (λ (ns : List ℕ). slice_get ns c ≡ Some next) same (got items c 0 h) in
    let inside = within path.callees c next is in
    let many = as_many q xs j path kept one at in
    let input : c < length path.inputs = omega arith in
    let k = known_at q xs j path kept one at in
    let z = item_at path.inputs c input in
    let call = call_of q xs j path k.0 k.1 c next z.0 at k.2 is z.1 in
    let p = kept.grown.placed next call.to call.one call.to_is in
    let before = p.before in
    let caller = call.caller_is in
    record { is = is; later = omega arith; one = call.one; inside = within xs next call.to call.to_is; input = input; to = call.to; there = call.to_is; caller_is = call.caller_is; place_is = call.place_is }

-- the instance at a number that is read
pub read : (xs : List Path) (j : ℕ) (path : Path) → j < length xs → path ≡ get_or xs j path → slice_get xs j ≡ Some path
read xs j path h is = at_place xs j path h is

-- what is listed at an instance that is called is listed at its caller
pub listed_on : (xs : List Path) (j : ℕ) (path : Path) (c next : ℕ) (input : Zone) (proc index : ℕ) → slice_get xs j ≡ Some path → slice_get path.callees c ≡ Some next → slice_get path.inputs c ≡ Some input → NotBottom input → IsListed xs next proc index →
    IsListed xs j proc index
listed_on xs j path c next input proc index at to there up l = (c ∷ l.0, l.1, (path, next, input, at, to, there, up, l.2), l.3)

pub no_true : {P : Type 0} → IsTrue false → P
no_true t = absurd (cc)

-- a test that is false tells that its fact isn't so
pub untold : {P : Type 0} (b : Bool) → b ≡ false → (P → IsTrue b) → P → ⊥
untold b off tells p = let t = tells p in absurd (cc)

pub untrue : (a b : Bool) → a ≡ false → (IsTrue b → IsTrue a) → IsFalse b
untrue a true off tells = let t = tells refl in absurd (cc)
untrue a false off tells = refl

-- what is left of a list is less behind a later element
pub down_below : (long j next t : ℕ) → j < next → next < long → long - j ≡ t → long - next < t
down_below long j next t later inside e = omega arith

-- the row that is made for an instance
pub row_made : (program : Resolution) (xs : List Path) (j : ℕ) (path : Path) (name : Name) (input : Zone) (keeps : List Zone) (reach : Reach) (sites : List NamedSite) (range : Cond) → 1 ≤ j → slice_get xs j ≡ Some path →
    slice_get (map name_of (procs_of program)) path.proc.0 ≡ Some name → HasInput xs path input → IsReached xs j → keeps ≡ path.keeps → HasResult xs path range → IsReachOf range reach → (found : List NamedSite) → AreListedSites program xs j found → sites ≡ found →
    IsRowOf program xs j (record { proc = name; input = input; keeps = keeps; result = reach; unproved = sites })
row_made program xs j path name input keeps reach sites range one at named has reached kept result is found listed same =
    let e : listed.path ≡ path = some_same (sym listed.path_is ∙ at) in
    let r : reached.0 ≡ path = some_same (sym reached.2 ∙ at) in
    let z : reached.1 ≡ input = input_once xs path reached.1 input (subst (λ (p : Path). HasInput xs p reached.1) r reached.3) has in
    record {
      one = one;
      path = path;
      path_is = at;
      named = named;
      input = has;
      reached = subst NotBottom z reached.4;
      keeps = kept;
      range = range;
      range_is = result;
      result = is;
      sites = subst (λ (p : Path). AreSitesOf program p.proc.0 sites) e (subst (λ (xs : List NamedSite). AreSitesOf program listed.path.proc.0 xs) (sym same) listed.sites);
      listed = λ site.
          subst (λ (p : Path). Contains sites site ↔ ((m : ℕ) × IsSiteOf program p.proc.0 m site × IsListed xs j m site.index)) e
          (subst (λ (ss : List NamedSite). Contains ss site ↔ ((m : ℕ) × IsSiteOf program listed.path.proc.0 m site × IsListed xs j m site.index)) (sym same) (listed.listed site));
    }
