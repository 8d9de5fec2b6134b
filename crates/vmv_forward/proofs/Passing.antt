-- A pass over an instance, from what the call promises of its lists.
use Rattle.std.proofs.Common.{◌≡◌, ℕ, zero, suc, ℤ, [], ◌∷◌, ◌+◌, ◌<◌, ◌≤◌, Bool, Option, Some, List, length, slice_get, get_or, IsTrue, IsFalse, refl, sym, ap, subst, arith, ◌∙◌}
use Rattle.std.specs.Prelude.{slice_set}
use Rattle.vmv_tree.specs.Tree.{Item}
use Rattle.vmv_cond.specs.declared.cond.Cond.{Cond}
use Rattle.vmv_snapshot.specs.declared.code.Code.{Code}
use Rattle.vmv_snapshot.specs.declared.code.ProcId.{ProcId}
use Rattle.vmv_snapshot.specs.Procs.{params_of}
use Rattle.vmv_snapshot.specs.Resolution.{procs_of}
use Rattle.vmv_zone.specs.declared.zone.Zone.{Zone}
use Rattle.vmv_zone.specs.Zone.{vars_of}
use Rattle.vmv_cert.specs.Tables.{IsAbove}
use Rattle.vmv_check.proofs.Lists.{some_same, within, at_place}
use Rattle.vmv_pass.specs.Source.{Stored, Source, result_in}
use Rattle.vmv_pass.specs.Holds.{Settles}
use Rattle.vmv_pass.specs.Room.{rooms, ranks}
use Rattle.vmv_pass.specs.Upper.{IsProc, Fits, AreBelow, IsUnder, IsUpper}
use Rattle.vmv_pass.specs.Told.{AreTold}
use Rattle.vmv_forward.specs.Path.{Path}
use Rattle.vmv_forward.specs.Rounds.{Quest, stored_of, AreKept, IsSettled, IsVisited, IsPassed}
use Rattle.vmv_forward.proofs.Sets.{get_same, get_other}
use Rattle.vmv_forward.proofs.Visiting.{settled_here}
use Rattle.vmv_forward.proofs.Reading.{Reads, proc_inside, input_over}

abbrev pub storage : Quest → List Zone → List Zone → List Cond → List Bool → Stored
storage q keeps inputs results unproved = record { assumed = q.assumed; keeps = keeps; inputs = inputs; results = results; unproved = unproved }

abbrev pub path_with : ProcId → ℕ → ℕ → List ℕ → List Zone → List Zone → List Cond → List Bool → Path
path_with proc caller place callees keeps inputs results unproved =
    record { proc = proc; caller = caller; place = place; callees = callees; keeps = keeps; inputs = inputs; results = results; unproved = unproved }

-- what a pass promises of the lists
pub record Raised (q : Quest) (proc : ProcId) (input : Zone) (k i : List Zone) (r : List Cond) (u : List Bool) (k' i' : List Zone) (u' : List Bool) (range : Cond) (raised : Bool) (s s' : ℕ) : Type 0 where
  pub keeps_stay : IsFalse raised → k' ≡ k
  pub inputs_stay : IsFalse raised → i' ≡ i
  pub fits : (item : Item) (code : Code) → IsProc q.program proc.0 item code → Fits q.program q.thresholds item code (storage q k' i' r u')
  pub keeps_rise : AreBelow k k'
  pub inputs_rise : AreBelow i i'
  pub falls : IsTrue raised → rooms k' + rooms i' < rooms k + rooms i
  pub under : (source : Source) (item : Item) (code : Code) (end : Zone) (calls : List (Option Zone)) → IsUpper q.program proc.0 q.thresholds input (storage q k i r u) source item code end calls → IsUnder source calls (storage q k i r u) →
      IsUnder source calls (storage q k' i' r u') × IsAbove (result_in source) range
  pub cost : s' + ranks q.thresholds k ≤ s + ranks q.thresholds k'

passed_same : (q : Quest) (proc : ProcId) (caller place : ℕ) (callees : List ℕ) (input : Zone) (k i : List Zone) (r : List Cond) (u : List Bool) (k' i' : List Zone) (u' : List Bool) (range : Cond) (raised : Bool) (s s' : ℕ) →
    Raised q proc input k i r u k' i' u' range raised s s' → IsPassed q input (path_with proc caller place callees k i r u) (path_with proc caller place callees k' i' r u') range raised s s'
passed_same q proc caller place callees input k i r u k' i' u' range raised s s' h =
    record {
      shape = record { proc = refl; caller = refl; place = refl; callees = refl; results = refl };
      keeps_stay = h.keeps_stay;
      inputs_stay = h.inputs_stay;
      fits = h.fits;
      keeps_rise = h.keeps_rise;
      inputs_rise = h.inputs_rise;
      falls = h.falls;
      under = h.under;
      cost = h.cost;
    }

pub passed_of : (q : Quest) (proc : ProcId) (caller place : ℕ) (callees : List ℕ) (input : Zone) (k0 i0 : List Zone) (r0 : List Cond) (u0 : List Bool) (k i : List Zone) (r : List Cond) (u : List Bool) (k' i' : List Zone) (u' : List Bool) (range : Cond) (raised : Bool) (s s' : ℕ) →
    k ≡ k0 → i ≡ i0 → r ≡ r0 → u ≡ u0 → Raised q proc input k i r u k' i' u' range raised s s' → (old : Path) → path_with proc caller place callees k0 i0 r0 u0 ≡ old →
    IsPassed q input old (path_with proc caller place callees k' i' r0 u') range raised s s'
passed_of q proc caller place callees input k0 i0 r0 u0 k i r u k' i' u' range raised s s' ek ei er eu h old is =
    let P : List Zone → List Zone → List Cond → List Bool → Type 0 = λ a b c d. IsPassed q input (path_with proc caller place callees a b c d) (path_with proc caller place callees k' i' c u') range raised s s' in
    let p0 : P k i r u = passed_same q proc caller place callees input k i r u k' i' u' range raised s s' h in
    let p1 : P k0 i r u = subst (λ a. P a i r u) ek p0 in
    let p2 : P k0 i0 r u = subst (λ b. P k0 b r u) ei p1 in
    let p3 : P k0 i0 r0 u = subst (λ c. P k0 i0 c u) er p2 in
    let p4 : P k0 i0 r0 u0 = subst (λ d. P k0 i0 r0 d) eu p3 in
    subst (λ (x : Path). IsPassed q input x (path_with proc caller place callees k' i' r0 u') range raised s s') is p4

pub fits_of : (q : Quest) (ts : List ℤ) (item : Item) (code : Code) (k0 i0 : List Zone) (r0 : List Cond) (u0 : List Bool) (k i : List Zone) (r : List Cond) (u : List Bool) → k ≡ k0 → i ≡ i0 → r ≡ r0 → u ≡ u0 →
    Fits q.program ts item code (storage q k0 i0 r0 u0) → Fits q.program ts item code (storage q k i r u)
fits_of q ts item code k0 i0 r0 u0 k i r u ek ei er eu h =
    subst (Fits q.program ts item code) (λ t. storage q (sym ek t) (sym ei t) (sym er t) (sym eu t)) h

pub same_or : {X : Type 0} (xs : List X) (i : ℕ) (d e : X) → i < length xs → get_or xs i d ≡ get_or xs i e
same_or [] i d e h = absurd (omega arith)
same_or (x ∷ xs) zero d e h = refl
same_or (x ∷ xs) (suc i) d e h = same_or xs i d e (omega (arith, h))

-- an element that is there
pub element : {X : Type 0} (xs : List X) (i : ℕ) (x d : X) → slice_get xs i ≡ Some x → x ≡ get_or xs i d
element xs i x d at = some_same (sym at ∙ at_place xs i (get_or xs i d) (within xs i x at) (same_or xs i d (get_or xs i d) (within xs i x at)))

pub caller_at : (q : Quest) (xs : List Path) (j : ℕ) (v d : Path) → Reads q xs j v → slice_get xs v.caller ≡ Some (get_or xs v.caller d)
caller_at q xs j v d r = r.there ∙ ap (λ (x : Path). Some x) (element xs v.caller r.caller d r.there)

pub input_bound : (q : Quest) (xs : List Path) (j : ℕ) (v d : Path) → Reads q xs j v → v.place < length (get_or xs v.caller d).inputs
input_bound q xs j v d r = subst (λ (x : Path). v.place < length x.inputs) (element xs v.caller r.caller d r.there) r.input

still_there : (q : Quest) (xs : List Path) (j : ℕ) (v new : Path) (r : Reads q xs j v) → slice_get (slice_set xs j new) v.caller ≡ Some r.caller
still_there q xs j v new r = get_other xs j v.caller new (λ e. (let b = r.before in omega arith)) ∙ r.there

pub result_bound_set : (q : Quest) (xs : List Path) (j : ℕ) (v new d : Path) → Reads q xs j v → v.place < length (get_or (slice_set xs j new) v.caller d).results
result_bound_set q xs j v new d r =
    subst (λ (x : Path). v.place < length x.results) (element (slice_set xs j new) v.caller r.caller d (still_there q xs j v new r)) r.result

pub proc_bound : (q : Quest) (xs : List Path) (j : ℕ) (v d : Path) → AreKept q xs → 1 ≤ j → Reads q xs j v → (get_or xs j d).proc.0 < length (procs_of q.program)
proc_bound q xs j v d kept one r = subst (λ (x : Path). x.proc.0 < length (procs_of q.program)) (element xs j v d r.at) (proc_inside q xs j v kept one r.at)

pub input_sizes : (q : Quest) (xs : List Path) (j : ℕ) (v d d' : Path) (input : Zone) → AreKept q xs → 1 ≤ j → Reads q xs j v → slice_get (get_or xs v.caller d).inputs v.place ≡ Some input → (item : Item) (code : Code) →
    IsProc q.program (get_or xs j d').proc.0 item code → vars_of input ≡ length (params_of item)
input_sizes q xs j v d d' input kept one r has item code is =
    let own = subst (λ (x : Path). IsProc q.program x.proc.0 item code) (sym (element xs j v d' r.at)) is in
    input_over q xs j v input item code kept one r.at (get_or xs v.caller d, caller_at q xs j v d r, has) own

pub fits_bound : (q : Quest) (xs : List Path) (j : ℕ) (v d : Path) → AreKept q xs → 1 ≤ j → Reads q xs j v → (item : Item) (code : Code) → IsProc q.program (get_or xs j d).proc.0 item code →
    Fits q.program q.thresholds item code (stored_of q.assumed (get_or xs j d))
fits_bound q xs j v d kept one r item code is = kept.fit.each j (get_or xs j d) item code one (r.at ∙ ap (λ (x : Path). Some x) (element xs j v d r.at)) is

pub made_of : (q : Quest) (xs : List Path) (j : ℕ) (v d d1 d2 new last : Path) (input : Zone) (range : Cond) (raised : Bool) (s s' : ℕ) → Reads q xs j v → slice_get (get_or xs v.caller d).inputs v.place ≡ Some input →
    IsPassed q input (get_or xs j d1) new range raised s s' →
    last ≡ record (get_or (slice_set xs j new) v.caller d2) { results = slice_set (get_or (slice_set xs j new) v.caller d2).results v.place range } →
    IsVisited q xs j raised s (slice_set (slice_set xs j new) v.caller last) s'
made_of q xs j v d d1 d2 new last input range raised s s' r has passed last_is =
    let here = element xs v.caller r.caller d r.there in
    let there = element (slice_set xs j new) v.caller r.caller d2 (still_there q xs j v new r) in
    record {
      old = v;
      old_is = r.at;
      caller = r.caller;
      caller_is = r.there;
      input = input;
      input_is = subst (λ (x : Path). slice_get x.inputs v.place ≡ Some input) (sym here) has;
      new = new;
      range = range;
      passed = subst (λ (x : Path). IsPassed q input x new range raised s s') (sym (element xs j v d1 r.at)) passed;
      changed = ap (λ (x : Path). slice_set (slice_set xs j new) v.caller x) (last_is ∙ ap (λ (x : Path). record x { results = slice_set x.results v.place range }) (sym there));
    }

-- the instance that was visited has settled, where the walk holds over what is stored behind the pass
pub settled_of : (q : Quest) (xs : List Path) (j : ℕ) (v d d1 d2 new last : Path) (input : Zone) (range : Cond) (raised : Bool) (s s' : ℕ) → AreKept q xs → 1 ≤ j → Reads q xs j v → slice_get (get_or xs v.caller d).inputs v.place ≡ Some input →
    IsPassed q input (get_or xs j d1) new range raised s s' →
    last ≡ record (get_or (slice_set xs j new) v.caller d2) { results = slice_set (get_or (slice_set xs j new) v.caller d2).results v.place range } →
    ((item : Item) (code : Code) → IsProc q.program (get_or xs j d1).proc.0 item code → Settles (stored_of q.assumed new) item code input range) →
    IsSettled q (slice_set (slice_set xs j new) v.caller last) j
settled_of q xs j v d d1 d2 new last input range raised s s' kept one r has passed last_is settles =
    let here = element xs v.caller r.caller d r.there in
    let there = element (slice_set xs j new) v.caller r.caller d2 (still_there q xs j v new r) in
    let own : v ≡ get_or xs j d1 = element xs j v d1 r.at in
    let visit : IsVisited q xs j raised s (slice_set (slice_set xs j new) v.caller last) s' = record {
      old = v;
      old_is = r.at;
      caller = r.caller;
      caller_is = r.there;
      input = input;
      input_is = subst (λ (x : Path). slice_get x.inputs v.place ≡ Some input) (sym here) has;
      new = new;
      range = range;
      passed = subst (λ (x : Path). IsPassed q input x new range raised s s') (sym own) passed;
      changed = ap (λ (x : Path). slice_set (slice_set xs j new) v.caller x) (last_is ∙ ap (λ (x : Path). record x { results = slice_set x.results v.place range }) (sym there));
    } in
    settled_here q xs j raised s (slice_set (slice_set xs j new) v.caller last) s' (record { visited = visit; before = r.before; called = r.called }) one kept.grown
    (λ item code is. settles item code (subst (λ (x : Path). IsProc q.program x.proc.0 item code) own is))

-- what a pass tells of the inputs of the instance that it changed
pub told_of : (q : Quest) (xs : List Path) (j : ℕ) (v d new last : Path) (risen risen' : List Bool) → Reads q xs j v → AreTold (get_or xs j d).inputs risen new.inputs risen' → (one other : Path) → slice_get xs j ≡ Some one →
    slice_get (slice_set (slice_set xs j new) v.caller last) j ≡ Some other → AreTold one.inputs risen other.inputs risen'
told_of q xs j v d new last risen risen' r told one other at at' =
    let here : slice_get (slice_set (slice_set xs j new) v.caller last) j ≡ Some new = get_other (slice_set xs j new) v.caller j last (λ e. (let b = r.before in omega arith)) ∙ get_same xs j new (within xs j v r.at) in
    let first : get_or xs j d ≡ one = sym (element xs j one d at) in
    let second : new ≡ other = some_same (sym here ∙ at') in
    subst (λ (x : Path). AreTold x.inputs risen other.inputs risen') first (subst (λ (x : Path). AreTold (get_or xs j d).inputs risen x.inputs risen') second told)

set_itself : {X : Type 0} (xs : List X) (i : ℕ) (x : X) → slice_get xs i ≡ Some x → slice_set xs i x ≡ xs
set_itself [] i x e = refl
set_itself (y ∷ xs) zero x e = ap (λ z. z ∷ xs) (sym (some_same e))
set_itself (y ∷ xs) (suc i) x e = ap (λ l. y ∷ l) (set_itself xs i x e)

results_same : (p : Path) (results : List Cond) → results ≡ p.results → record p { results = results } ≡ p
results_same p results e = ap (λ (l : List Cond). record p { results = l }) e

-- the caller is as it was where the result is
pub same_of : (q : Quest) (xs : List Path) (j : ℕ) (v d new last : Path) (range : Cond) → Reads q xs j v →
    last ≡ record (get_or (slice_set xs j new) v.caller d) { results = slice_set (get_or (slice_set xs j new) v.caller d).results v.place range } →
    slice_get (get_or (slice_set xs j new) v.caller d).results v.place ≡ Some range → (path : Path) → slice_get xs j ≡ Some path →
    slice_get (slice_set (slice_set xs j new) v.caller last) path.caller ≡ slice_get xs path.caller
same_of q xs j v d new last range r last_is there path at =
    let zs : List Path = slice_set xs j new in
    let given : Path = get_or zs v.caller d in
    let one : v ≡ path = some_same (sym r.at ∙ at) in
    let still : slice_get zs v.caller ≡ Some r.caller = still_there q xs j v new r in
    let same : r.caller ≡ given = element zs v.caller r.caller d still in
    let as_given : last ≡ given = last_is ∙ results_same given (slice_set given.results v.place range) (set_itself given.results v.place range there) in
    let put : slice_get (slice_set zs v.caller last) v.caller ≡ Some last = get_same zs v.caller last (within zs v.caller r.caller still) in
    let whole : slice_get (slice_set zs v.caller last) v.caller ≡ slice_get xs v.caller = put ∙ (ap (λ (x : Path). Some x) (as_given ∙ sym same) ∙ sym r.there) in
    subst (λ (x : Path). slice_get (slice_set zs v.caller last) x.caller ≡ slice_get xs x.caller) one whole
