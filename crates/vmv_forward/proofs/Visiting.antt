-- What a visit of an instance changes, and what it leaves.
use Rattle.vmv_zone.proofs.Equal.{by_truth}
use Rattle.std.proofs.Common.{◌≡◌, ◌⊎◌, inl, inr, ⊎_elim, ℕ, zero, suc, ◌+◌, ◌<◌, ◌≤◌, ℤ, Bool, Some, List, [], ◌∷◌, length, slice_get, IsTrue, IsFalse, refl, sym, ap, subst, arith, ◌∙◌}
use Rattle.std.specs.Prelude.{slice_set, sum_by}
use Rattle.std.specs.List.{All, AllZip}
use Rattle.std.proofs.lemmas.Bool.{cases_eq}
use Rattle.vmv_tree.specs.Tree.{Item}
use Rattle.vmv_cond.specs.declared.cond.Cond.{Cond}
use Rattle.vmv_snapshot.specs.declared.code.Code.{Code}
use Rattle.vmv_snapshot.specs.declared.code.ProcId.{ProcId}
use Rattle.vmv_snapshot.specs.View.{code_of}
use Rattle.vmv_zone.specs.declared.zone.Zone.{Zone}
use Rattle.vmv_zone.specs.Zone.{vars_of, IsBelow, IsNormal}
use Rattle.vmv_zone.specs.Round.{IsThresholdState}
use Rattle.vmv_check.specs.Walker.{HasParams}
use Rattle.vmv_check.proofs.Lists.{some_same, within, item_at}
use Rattle.vmv_pass.specs.Callees.{block_callees}
use Rattle.vmv_pass.specs.Holds.{Settles}
use Rattle.vmv_pass.specs.Room.{rooms, ranks}
use Rattle.vmv_pass.specs.Upper.{IsProc, Fits, AreBelow}
use Rattle.vmv_forward.specs.Path.{Path}
use Rattle.vmv_forward.specs.Paths.{IsCallee, IsPlaced, IsGrown, loops_of}
use Rattle.vmv_forward.specs.Rounds.{Quest, stored_of, HasInput, HasResult, AreFit, IsSettled, IsVisited, all_rooms, all_ranks, HaveFew}
use Rattle.vmv_forward.proofs.Sets.{get_same, get_other, length_set, sum_set, zip_at}
use Rattle.vmv_forward.proofs.States.{below_same}

-- how a path is changed by a visit of instance j, whose caller is p
pub record Moved (q : Quest) (old : Path) (j p place : ℕ) (range : Cond) (raised : Bool) (i : ℕ) (path path' : Path) : Type 0 where
  pub proc : path'.proc ≡ path.proc
  pub caller : path'.caller ≡ path.caller
  pub place_is : path'.place ≡ path.place
  pub callees : path'.callees ≡ path.callees
  pub keeps : (i ≡ j → ⊥) → path'.keeps ≡ path.keeps
  pub inputs : (i ≡ j → ⊥) → path'.inputs ≡ path.inputs
  pub unproved : (i ≡ j → ⊥) → path'.unproved ≡ path.unproved
  pub count : length path'.results ≡ length path.results
  pub results : (c : ℕ) (d : Cond) → slice_get path'.results c ≡ Some d → ((i ≡ p) × (c ≡ place) × (d ≡ range)) ⊎ (slice_get path.results c ≡ Some d)
  pub rise : AreBelow path.inputs path'.inputs
  pub stay : IsFalse raised → path'.inputs ≡ path.inputs
  pub same : (i ≡ j → ⊥) → (i ≡ p → ⊥) → path' ≡ path
  pub here : i ≡ j → path ≡ old

same_below : (zs : List Zone) → AreBelow zs zs
same_below [] = tt
same_below (z ∷ zs) = ((refl, below_same z), same_below zs)

-- a result that was set, or an old one
set_result : (xs : List Cond) (place : ℕ) (range : Cond) (c : ℕ) (d : Cond) → slice_get (slice_set xs place range) c ≡ Some d → ((c ≡ place) × (d ≡ range)) ⊎ (slice_get xs c ≡ Some d)
set_result [] place range c d e = inr e
set_result (x ∷ xs) zero range zero d e = inl (refl, sym (some_same e))
set_result (x ∷ xs) zero range (suc c) d e = inr e
set_result (x ∷ xs) (suc place) range zero d e = inr e
set_result (x ∷ xs) (suc place) range (suc c) d e = ⊎_elim (λ (h : (c ≡ place) × (d ≡ range)). inl (ap suc h.0, h.1)) (λ (h : slice_get xs c ≡ Some d). inr h) (set_result xs place range c d e)

unmoved : (q : Quest) (old : Path) (j p place : ℕ) (range : Cond) (raised : Bool) (i : ℕ) (path : Path) → (i ≡ j → ⊥) → Moved q old j p place range raised i path path
unmoved q old j p place range raised i path apart =
    record {
      proc = refl;
      caller = refl;
      place_is = refl;
      callees = refl;
      keeps = λ h. refl;
      inputs = λ h. refl;
      unproved = λ h. refl;
      count = refl;
      results = λ c d e. inr e;
      rise = same_below path.inputs;
      stay = λ f. refl;
      same = λ a b. refl;
      here = λ e. absurd (apart e);
    }

-- a visit of an instance that is placed
pub record Seen (q : Quest) (xs : List Path) (j : ℕ) (raised : Bool) (steps : ℕ) (ys : List Path) (steps' : ℕ) : Type 0 where
  pub visited : IsVisited q xs j raised steps ys steps'
  pub before : visited.old.caller < j
  pub called : slice_get visited.caller.callees visited.old.place ≡ Some j

-- the change at each instance
change : (q : Quest) (xs : List Path) (j : ℕ) (raised : Bool) (s : ℕ) (ys : List Path) (s' : ℕ) (v : Seen q xs j raised s ys s') (i : ℕ) (path : Path) → slice_get xs i ≡ Some path →
    (path' : Path) × (slice_get ys i ≡ Some path') × Moved q v.visited.old j v.visited.old.caller v.visited.old.place v.visited.range raised i path path'
change q xs j raised s ys s' v i path at =
    let o = v.visited in
    let p = o.old.caller in
    let shape = o.passed.shape in
    let zs : List Path = slice_set xs j o.new in
    let given : Path = record o.caller { results = slice_set o.caller.results o.old.place o.range } in
    let apart : p ≡ j → ⊥ = λ e. (let b = v.before in omega arith) in
    ⊎_elim (λ (e : i ≡ j).
    let old : path ≡ o.old = some_same (sym at ∙ (ap (slice_get xs) e ∙ o.old_is)) in
    let here : slice_get ys i ≡ Some o.new =
    ap (λ (l : List Path). slice_get l i) o.changed ∙ (get_other zs p i given (λ h. apart (sym h ∙ e)) ∙ (ap (slice_get zs) e ∙ get_same xs j o.new (within xs j o.old o.old_is))) in (
      o.new,
      here,
      subst (λ (x : Path). Moved q o.old j p o.old.place o.range raised i x o.new) (sym old) (record {
        proc = shape.proc;
        caller = shape.caller;
        place_is = shape.place;
        callees = shape.callees;
        keeps = λ h. absurd (h e);
        inputs = λ h. absurd (h e);
        unproved = λ h. absurd (h e);
        count = ap length shape.results;
        results = λ c d g. inr (subst (λ (l : List Cond). slice_get l c ≡ Some d) shape.results g);
        rise = o.passed.inputs_rise;
        stay = o.passed.inputs_stay;
        same = λ h k. absurd (h e);
        here = λ h. refl;
      }),
    ))
    (λ (n : i ≡ j → ⊥).
    ⊎_elim (λ (e : i ≡ p).
    let there : slice_get zs p ≡ Some o.caller = get_other xs j p o.new apart ∙ o.caller_is in
    let old : path ≡ o.caller = some_same (sym at ∙ (ap (slice_get xs) e ∙ o.caller_is)) in
    let here : slice_get ys i ≡ Some given = ap (λ (l : List Path). slice_get l i) o.changed ∙ (ap (slice_get (slice_set zs p given)) e ∙ get_same zs p given (within zs p o.caller there)) in (
      given,
      here,
      subst (λ (x : Path). Moved q o.old j p o.old.place o.range raised i x given) (sym old) (record {
        proc = refl;
        caller = refl;
        place_is = refl;
        callees = refl;
        keeps = λ h. refl;
        inputs = λ h. refl;
        unproved = λ h. refl;
        count = length_set o.caller.results o.old.place o.range;
        results = λ c d g. ⊎_elim (λ (h : (c ≡ o.old.place) × (d ≡ o.range)). inl (e, h.0, h.1)) (λ (h : slice_get o.caller.results c ≡ Some d). inr h) (set_result o.caller.results o.old.place o.range c d g);
        rise = same_below o.caller.inputs;
        stay = λ f. refl;
        same = λ h k. absurd (k e);
        here = λ h. absurd (n h);
      }),
    ))
    (λ (m : i ≡ p → ⊥).
    let here : slice_get ys i ≡ Some path = ap (λ (l : List Path). slice_get l i) o.changed ∙ (get_other zs p i given m ∙ (get_other xs j i o.new n ∙ at)) in
    (path, here, unmoved q o.old j p o.old.place o.range raised i path n))
    (cases_eq i p))
    (cases_eq i j)

-- what stands at the place that is visited
pub new_at : (q : Quest) (xs : List Path) (j : ℕ) (raised : Bool) (s : ℕ) (ys : List Path) (s' : ℕ) (v : Seen q xs j raised s ys s') → slice_get ys j ≡ Some v.visited.new
new_at q xs j raised s ys s' v =
    let o = v.visited in
    let zs : List Path = slice_set xs j o.new in
    let given : Path = record o.caller { results = slice_set o.caller.results o.old.place o.range } in
    ap (λ (l : List Path). slice_get l j) o.changed ∙ (get_other zs o.old.caller j given (λ h. (let b = v.before in omega arith)) ∙ get_same xs j o.new (within xs j o.old o.old_is))

-- what stands behind a visit stood before it
pub back : (q : Quest) (xs : List Path) (j : ℕ) (raised : Bool) (s : ℕ) (ys : List Path) (s' : ℕ) (v : Seen q xs j raised s ys s') (i : ℕ) (path' : Path) → slice_get ys i ≡ Some path' →
    (path : Path) × (slice_get xs i ≡ Some path) × Moved q v.visited.old j v.visited.old.caller v.visited.old.place v.visited.range raised i path path'
back q xs j raised s ys s' v i path' at =
    let o = v.visited in
    let zs : List Path = slice_set xs j o.new in
    let given : Path = record o.caller { results = slice_set o.caller.results o.old.place o.range } in
    let long : length ys ≡ length xs = ap length o.changed ∙ (length_set zs o.old.caller given ∙ length_set xs j o.new) in
    let inside = within ys i path' at in
    let x = item_at xs i (omega arith) in
    let c = change q xs j raised s ys s' v i x.0 x.1 in
    (x.0, x.1, subst (λ (y : Path). Moved q o.old j o.old.caller o.old.place o.range raised i x.0 y) (some_same (sym c.1 ∙ at)) c.2)

pub forth : (q : Quest) (xs : List Path) (j : ℕ) (raised : Bool) (s : ℕ) (ys : List Path) (s' : ℕ) (v : Seen q xs j raised s ys s') (i : ℕ) (path : Path) → slice_get xs i ≡ Some path →
    (path' : Path) × (slice_get ys i ≡ Some path') × Moved q v.visited.old j v.visited.old.caller v.visited.old.place v.visited.range raised i path path'
forth q xs j raised s ys s' v i path at = change q xs j raised s ys s' v i path at

-- how the instances hang together stays

callee_stays : (q : Quest) (xs : List Path) (j : ℕ) (raised : Bool) (s : ℕ) (ys : List Path) (s' : ℕ) (v : Seen q xs j raised s ys s') (i : ℕ) (path path' : Path) (c n : ℕ) → path'.callees ≡ path.callees → IsCallee xs i path c n → IsCallee ys i path' c n
callee_stays q xs j raised s ys s' v i path path' c n same is =
    let f = forth q xs j raised s ys s' v is.number is.callee is.there in
    record {
      number = is.number;
      number_is = subst (λ (l : List ℕ). slice_get l c ≡ Some is.number) (sym same) is.number_is;
      later = is.later;
      callee = f.0;
      there = f.1;
      proc_is = ap (λ (x : ProcId). x.0) f.2.proc ∙ is.proc_is;
      caller_is = f.2.caller ∙ is.caller_is;
      place_is = f.2.place_is ∙ is.place_is;
    }

pub grown_stays : (q : Quest) (xs : List Path) (j : ℕ) (raised : Bool) (s : ℕ) (ys : List Path) (s' : ℕ) (v : Seen q xs j raised s ys s') → IsGrown q.program q.entry xs → IsGrown q.program q.entry ys
grown_stays q xs j raised s ys s' v g =
    let o = forth q xs j raised s ys s' v 0 g.outside g.outside_is in
    record {
      outside = o.0;
      outside_is = o.1;
      calls = o.2.callees ∙ g.calls;
      first = callee_stays q xs j raised s ys s' v 0 g.outside o.0 0 q.entry o.2.callees g.first;
      placed = λ i path' one at.
          let b = back q xs j raised s ys s' v i path' at in
          let is = g.placed i b.0 one b.1 in
          let c = forth q xs j raised s ys s' v b.0.caller is.caller is.there in
          record {
            caller = c.0;
            there = ap (slice_get ys) b.2.caller ∙ c.1;
            not_before = omega arith;
            before = subst (λ k. k < i) (sym b.2.caller) is.before;
            called = ap (slice_get c.0.callees) b.2.place_is ∙ subst (λ (l : List ℕ). slice_get l b.0.place ≡ Some i) (sym c.2.callees) is.called;
          };
      linked = λ i path' one at.
          let b = back q xs j raised s ys s' v i path' at in
          let is = g.linked i b.0 one b.1 in
          record {
            item = is.item;
            code = is.code;
            proc = subst (λ (n : ProcId). IsProc q.program n.0 is.item is.code) (sym b.2.proc) is.proc;
            count = ap length b.2.callees ∙ is.count;
            each = λ c callee there. callee_stays q xs j raised s ys s' v i b.0 path' c callee.0 b.2.callees (is.each c callee there);
          };
    }

-- what is stored fits

fits_same : (q : Quest) (ts : List ℤ) (item : Item) (code : Code) (path path' : Path) → path'.keeps ≡ path.keeps → path'.inputs ≡ path.inputs → path'.unproved ≡ path.unproved → length path'.results ≡ length path.results →
    Fits q.program ts item code (stored_of q.assumed path) → Fits q.program ts item code (stored_of q.assumed path')
fits_same q ts item code path path' keeps inputs unproved results f =
    record {
      keeps = ap length keeps ∙ f.keeps;
      over = subst (λ (l : List Zone). All (λ z. vars_of z ≡ code.vars) l) (sym keeps) f.over;
      thresholds = subst (λ (l : List Zone). All (IsThresholdState ts) l) (sym keeps) f.thresholds;
      inputs = subst (λ (l : List Zone). AllZip (λ (callee : ProcId) (z : Zone). HasParams q.program callee.0 (vars_of z) × IsNormal z) (block_callees (code_of code).block) l) (sym inputs) f.inputs;
      results = results ∙ f.results;
      unproved = ap length unproved ∙ f.unproved;
    }

pub fit_stays : (q : Quest) (xs : List Path) (j : ℕ) (raised : Bool) (s : ℕ) (ys : List Path) (s' : ℕ) (v : Seen q xs j raised s ys s') → 1 ≤ j → AreFit q xs → AreFit q ys
fit_stays q xs j raised s ys s' v from fit =
    let o = v.visited in
    record {
      entry = fit.entry;
      normal = fit.normal;
      outside = λ path' at.
          let b = back q xs j raised s ys s' v 0 path' at in
          let f = fit.outside b.0 b.1 in
          let n : 0 ≡ j → ⊥ = λ e. omega arith in
          (b.2.inputs n ∙ f.0, b.2.count ∙ f.1);
      each = λ i path' item code one at is.
          let b = back q xs j raised s ys s' v i path' at in
          let is' = subst (λ (n : ProcId). IsProc q.program n.0 item code) b.2.proc is in
          ⊎_elim (λ (e : i ≡ j).
          let old : b.0 ≡ o.old = some_same (sym b.1 ∙ (ap (slice_get xs) e ∙ o.old_is)) in
          let f = forth q xs j raised s ys s' v j o.old o.old_is in
          let here : slice_get ys i ≡ Some o.new = ap (slice_get ys) e ∙ new_at q xs j raised s ys s' v in
          let same : o.new ≡ path' = some_same (sym here ∙ at) in
          subst (λ (x : Path). Fits q.program q.thresholds item code (stored_of q.assumed x)) same (o.passed.fits item code (subst (λ (x : Path). IsProc q.program x.proc.0 item code) old is')))
          (λ (n : i ≡ j → ⊥). fits_same q q.thresholds item code b.0 path' (b.2.keeps n) (b.2.inputs n) (b.2.unproved n) b.2.count (fit.each i b.0 item code one b.1 is'))
          (cases_eq i j);
    }

-- the input and the result of an instance

-- the input before the visit was below that behind it, and the same where nothing was raised
pub record InputBefore (q : Quest) (xs : List Path) (j : ℕ) (raised : Bool) (path : Path) (input' : Zone) : Type 0 where
  pub input : Zone
  pub has : HasInput xs path input
  pub below : IsBelow input input'
  pub vars : input'.vars ≡ input.vars
  pub stay : IsFalse raised → input' ≡ input
  pub apart : (path.caller ≡ j → ⊥) → input' ≡ input

pub input_before : (q : Quest) (xs : List Path) (j : ℕ) (raised : Bool) (s : ℕ) (ys : List Path) (s' : ℕ) (v : Seen q xs j raised s ys s') (i : ℕ) (path path' : Path) (input' : Zone) →
    Moved q v.visited.old j v.visited.old.caller v.visited.old.place v.visited.range raised i path path' → HasInput ys path' input' → InputBefore q xs j raised path input'
input_before q xs j raised s ys s' v i path path' input' m (caller', there, at) =
    let b = back q xs j raised s ys s' v path'.caller caller' there in
    let one : slice_get xs path.caller ≡ Some b.0 = subst (λ k. slice_get xs k ≡ Some b.0) m.caller b.1 in
    let at' : slice_get caller'.inputs path.place ≡ Some input' = subst (λ k. slice_get caller'.inputs k ≡ Some input') m.place_is at in
    let z = zip_at (λ (x y : Zone). (vars_of y ≡ vars_of x) × IsBelow x y) b.0.inputs caller'.inputs path.place input' b.2.rise at' in
    record {
      input = z.0;
      has = (b.0, one, z.1);
      below = z.2.1;
      vars = z.2.0;
      stay = λ f. some_same (sym at' ∙ subst (λ (l : List Zone). slice_get l path.place ≡ Some z.0) (sym (b.2.stay f)) z.1);
      apart = λ n. some_same (sym at' ∙ subst (λ (l : List Zone). slice_get l path.place ≡ Some z.0) (sym (b.2.inputs (λ e. n (sym m.caller ∙ e)))) z.1);
    }

-- the result behind the visit is the range of the instance that was visited, and else what it was
pub result_before : (q : Quest) (xs : List Path) (j : ℕ) (raised : Bool) (s : ℕ) (ys : List Path) (s' : ℕ) (v : Seen q xs j raised s ys s') (i : ℕ) (path path' : Path) (result' : Cond) → IsPlaced xs 0 i path →
    Moved q v.visited.old j v.visited.old.caller v.visited.old.place v.visited.range raised i path path' → HasResult ys path' result' → ((i ≡ j) × (result' ≡ v.visited.range)) ⊎ HasResult xs path result'
result_before q xs j raised s ys s' v i path path' result' placed m (caller', there, at) =
    let o = v.visited in
    let b = back q xs j raised s ys s' v path'.caller caller' there in
    let one : slice_get xs path.caller ≡ Some b.0 = subst (λ k. slice_get xs k ≡ Some b.0) m.caller b.1 in
    let at' : slice_get caller'.results path.place ≡ Some result' = subst (λ k. slice_get caller'.results k ≡ Some result') m.place_is at in
    ⊎_elim (λ (h : (path'.caller ≡ o.old.caller) × (path.place ≡ o.old.place) × (result' ≡ o.range)).
    let same : path.caller ≡ o.old.caller = sym m.caller ∙ h.0 in
    let caller : placed.caller ≡ o.caller = some_same (sym placed.there ∙ (ap (slice_get xs) same ∙ o.caller_is)) in
    let mine : slice_get o.caller.callees o.old.place ≡ Some i = subst (λ k. slice_get o.caller.callees k ≡ Some i) h.1 (subst (λ (x : Path). slice_get x.callees path.place ≡ Some i) caller placed.called) in
    inl (some_same (sym mine ∙ v.called), h.2))
    (λ (h : slice_get b.0.results path.place ≡ Some result'). inr (b.0, one, h))
    (b.2.results path.place result' at')

pub range_is : (q : Quest) (xs : List Path) (j : ℕ) (raised : Bool) (s : ℕ) (ys : List Path) (s' : ℕ) (v : Seen q xs j raised s ys s') (i : ℕ) (path path' : Path) (result' : Cond) → i ≡ j → IsPlaced xs 0 i path →
    Moved q v.visited.old j v.visited.old.caller v.visited.old.place v.visited.range raised i path path' → HasResult ys path' result' → result' ≡ v.visited.range
range_is q xs j raised s ys s' v i path path' result' e placed m (caller', there, at) =
    let o = v.visited in
    let zs : List Path = slice_set xs j o.new in
    let given : Path = record o.caller { results = slice_set o.caller.results o.old.place o.range } in
    let old : path ≡ o.old = m.here e in
    let p : path'.caller ≡ o.old.caller = m.caller ∙ ap (λ (x : Path). x.caller) old in
    let c : path'.place ≡ o.old.place = m.place_is ∙ ap (λ (x : Path). x.place) old in
    let apart : o.old.caller ≡ j → ⊥ = λ h. (let b = v.before in omega arith) in
    let caller : slice_get zs o.old.caller ≡ Some o.caller = get_other xs j o.old.caller o.new apart ∙ o.caller_is in
    let here : slice_get ys o.old.caller ≡ Some given = ap (λ (l : List Path). slice_get l o.old.caller) o.changed ∙ get_same zs o.old.caller given (within zs o.old.caller o.caller caller) in
    let same : given ≡ caller' = some_same (sym here ∙ subst (λ k. slice_get ys k ≡ Some caller') p there) in
    let at' : slice_get caller'.results o.old.place ≡ Some result' = subst (λ k. slice_get caller'.results k ≡ Some result') c at in
    let at'' : slice_get given.results o.old.place ≡ Some result' = subst (λ (x : Path). slice_get x.results o.old.place ≡ Some result') (sym same) at' in
    let long = length_set o.caller.results o.old.place o.range in
    let inside = within given.results o.old.place result' at'' in
    some_same (sym at'' ∙ get_same o.caller.results o.old.place o.range (omega arith))

-- the instance that was visited has settled, where the walk holds over what is stored behind the pass
pub settled_here : (q : Quest) (xs : List Path) (j : ℕ) (raised : Bool) (s : ℕ) (ys : List Path) (s' : ℕ) (v : Seen q xs j raised s ys s') → 1 ≤ j → IsGrown q.program q.entry xs →
    ((item : Item) (code : Code) → IsProc q.program v.visited.old.proc.0 item code → Settles (stored_of q.assumed v.visited.new) item code v.visited.input v.visited.range) → IsSettled q ys j
settled_here q xs j raised s ys s' v from grown settles path input result item code at has given is =
    let o = v.visited in
    let b = back q xs j raised s ys s' v j path at in
    let old : b.0 ≡ o.old = some_same (sym b.1 ∙ o.old_is) in
    let new : o.new ≡ path = some_same (sym (new_at q xs j raised s ys s' v) ∙ at) in
    let before = input_before q xs j raised s ys s' v j b.0 path input b.2 has in
    let mine : HasInput xs o.old before.input = subst (λ (x : Path). HasInput xs x before.input) old before.has in
    let caller : mine.0 ≡ o.caller = some_same (sym mine.1 ∙ o.caller_is) in
    let taken : before.input ≡ o.input = some_same (sym (subst (λ (x : Path). slice_get x.inputs o.old.place ≡ Some before.input) caller mine.2) ∙ o.input_is) in
    let is' = subst (λ (x : Path). IsProc q.program x.proc.0 item code) old (subst (λ (n : ProcId). IsProc q.program n.0 item code) b.2.proc is) in
    let range : result ≡ o.range = range_is q xs j raised s ys s' v j b.0 path result refl (grown.placed j b.0 from b.1) b.2 given in
    let off : b.0.caller ≡ j → ⊥ = λ e. (let p = v.before in let f : b.0.caller ≡ o.old.caller = ap (λ (x : Path). x.caller) old in omega arith) in
    let body = settles item code is' in
    let b1 = subst (λ (x : Path). Settles (stored_of q.assumed x) item code o.input o.range) new body in
    let b2 = subst (λ (z : Zone). Settles (stored_of q.assumed path) item code z o.range) (sym (before.apart off ∙ taken)) b1 in
    subst (λ (c : Cond). Settles (stored_of q.assumed path) item code input c) (sym range) b2

-- An instance stays settled that isn't the one that was visited: where it is the caller, it is as it was, and where it is
-- called, its input is.
pub settled_stays : (q : Quest) (xs : List Path) (j : ℕ) (raised : Bool) (s : ℕ) (ys : List Path) (s' : ℕ) (v : Seen q xs j raised s ys s') (k : ℕ) → 1 ≤ k → (k ≡ j → ⊥) → (k ≡ v.visited.old.caller → slice_get ys k ≡ slice_get xs k) →
    (IsTrue raised → (c : ℕ) → slice_get v.visited.old.callees c ≡ Some k → slice_get v.visited.new.inputs c ≡ slice_get v.visited.old.inputs c) → IsGrown q.program q.entry xs → IsSettled q xs k → IsSettled q ys k
settled_stays q xs j raised s ys s' v k from apart still uncalled grown settled path' input result item code at has given is =
    let o = v.visited in
    let b = back q xs j raised s ys s' v k path' at in
    let same : path' ≡ b.0 = ⊎_elim (λ (e : k ≡ o.old.caller). some_same (sym at ∙ (still e ∙ b.1))) (λ (n : k ≡ o.old.caller → ⊥). b.2.same apart n) (cases_eq k o.old.caller) in
    let before = input_before q xs j raised s ys s' v k b.0 path' input b.2 has in
    let is' = subst (λ (n : ProcId). IsProc q.program n.0 item code) b.2.proc is in
    let placed = grown.placed k b.0 from b.1 in
    let mine : HasResult xs b.0 result = ⊎_elim (λ (h : (k ≡ j) × (result ≡ o.range)). absurd (apart h.0)) (λ (h : HasResult xs b.0 result). h)
    (result_before q xs j raised s ys s' v k b.0 path' result placed b.2 given) in
    let body = settled b.0 before.input result item code b.1 before.has mine is' in
    let b1 = subst (λ (x : Path). Settles (stored_of q.assumed x) item code before.input result) (sym same) body in
    let stays : input ≡ before.input = by_truth raised
    (λ h. ⊎_elim (λ (e : b.0.caller ≡ j).
    let here : placed.caller ≡ o.old = some_same (sym placed.there ∙ (ap (slice_get xs) e ∙ o.old_is)) in
    let called = subst (λ (x : Path). slice_get x.callees b.0.place ≡ Some k) here placed.called in
    let new : has.0 ≡ o.new = some_same (sym has.1 ∙ (ap (slice_get ys) (b.2.caller ∙ e) ∙ new_at q xs j raised s ys s' v)) in
    let there : slice_get has.0.inputs b.0.place ≡ Some input = subst (λ n. slice_get has.0.inputs n ≡ Some input) b.2.place_is has.2 in
    let now : slice_get o.new.inputs b.0.place ≡ Some input = subst (λ (x : Path). slice_get x.inputs b.0.place ≡ Some input) new there in
    let first : before.has.0 ≡ o.old = some_same (sym before.has.1 ∙ (ap (slice_get xs) e ∙ o.old_is)) in
    let past : slice_get o.old.inputs b.0.place ≡ Some before.input = subst (λ (x : Path). slice_get x.inputs b.0.place ≡ Some before.input) first before.has.2 in
    some_same (sym now ∙ (uncalled h b.0.place called ∙ past)))
    (λ (n : b.0.caller ≡ j → ⊥). before.apart n) (cases_eq b.0.caller j))
    (λ h. before.stay h) in
    subst (λ (z : Zone). Settles (stored_of q.assumed path') item code z result) (sym stays) b1

-- sums over the instances
sum_moved : (f : Path → ℕ) (q : Quest) (xs : List Path) (j : ℕ) (raised : Bool) (s : ℕ) (ys : List Path) (s' : ℕ) (v : Seen q xs j raised s ys s') →
    ((x : Path) (results : List Cond) → f (record x { results = results }) ≡ f x) → sum_by f ys + f v.visited.old ≡ sum_by f xs + f v.visited.new
sum_moved f q xs j raised s ys s' v blind =
    let o = v.visited in
    let p = o.old.caller in
    let zs : List Path = slice_set xs j o.new in
    let results : List Cond = slice_set o.caller.results o.old.place o.range in
    let given : Path = record o.caller { results = results } in
    let apart : p ≡ j → ⊥ = λ e. (let b = v.before in omega arith) in
    let there : slice_get zs p ≡ Some o.caller = get_other xs j p o.new apart ∙ o.caller_is in
    let one = sum_set f xs j o.old o.new o.old_is in
    let two = sum_set f zs p o.caller given there in
    let blind' : f given ≡ f o.caller = blind o.caller results in
    let is : sum_by f ys ≡ sum_by f (slice_set zs p given) = ap (sum_by f) o.changed in
    omega arith

pub rooms_fall : (q : Quest) (xs : List Path) (j : ℕ) (raised : Bool) (s : ℕ) (ys : List Path) (s' : ℕ) (v : Seen q xs j raised s ys s') → IsTrue raised → all_rooms ys < all_rooms xs
rooms_fall q xs j raised s ys s' v up =
    let f : Path → ℕ = λ path. rooms path.keeps + rooms path.inputs in
    let h : sum_by f ys + f v.visited.old ≡ sum_by f xs + f v.visited.new = sum_moved f q xs j raised s ys s' v (λ x results. refl) in
    let less : f v.visited.new < f v.visited.old = v.visited.passed.falls up in
    let a : all_rooms ys ≡ sum_by f ys = refl in
    let b : all_rooms xs ≡ sum_by f xs = refl in
    omega arith

pub rooms_stay : (q : Quest) (xs : List Path) (j : ℕ) (raised : Bool) (s : ℕ) (ys : List Path) (s' : ℕ) (v : Seen q xs j raised s ys s') → IsFalse raised → all_rooms ys ≡ all_rooms xs
rooms_stay q xs j raised s ys s' v still =
    let f : Path → ℕ = λ path. rooms path.keeps + rooms path.inputs in
    let h : sum_by f ys + f v.visited.old ≡ sum_by f xs + f v.visited.new = sum_moved f q xs j raised s ys s' v (λ x results. refl) in
    let one : rooms v.visited.new.keeps ≡ rooms v.visited.old.keeps = ap rooms (v.visited.passed.keeps_stay still) in
    let two : rooms v.visited.new.inputs ≡ rooms v.visited.old.inputs = ap rooms (v.visited.passed.inputs_stay still) in
    let a : all_rooms ys ≡ sum_by f ys = refl in
    let b : all_rooms xs ≡ sum_by f xs = refl in
    let c : f v.visited.new ≡ rooms v.visited.new.keeps + rooms v.visited.new.inputs = refl in
    let d : f v.visited.old ≡ rooms v.visited.old.keeps + rooms v.visited.old.inputs = refl in
    omega arith

pub ranks_pay : (q : Quest) (xs : List Path) (j : ℕ) (raised : Bool) (s : ℕ) (ys : List Path) (s' : ℕ) (v : Seen q xs j raised s ys s') → s' + all_ranks q.thresholds xs ≤ s + all_ranks q.thresholds ys
ranks_pay q xs j raised s ys s' v =
    let f : Path → ℕ = λ path. ranks q.thresholds path.keeps in
    let h : sum_by f ys + f v.visited.old ≡ sum_by f xs + f v.visited.new = sum_moved f q xs j raised s ys s' v (λ x results. refl) in
    let paid : s' + f v.visited.old ≤ s + f v.visited.new = v.visited.passed.cost in
    let a : all_ranks q.thresholds ys ≡ sum_by f ys = refl in
    let b : all_ranks q.thresholds xs ≡ sum_by f xs = refl in
    omega arith

-- as many loops, over as few variables

long_below : (xs ys : List Zone) → AreBelow xs ys → length ys ≡ length xs
long_below [] [] all = refl
long_below [] (y ∷ ys) all = absurd all
long_below (x ∷ xs) [] all = absurd all
long_below (x ∷ xs) (y ∷ ys) all = let h = long_below xs ys all.1 in omega arith

few_below : (xs ys : List Zone) → AreBelow xs ys → All (λ z. vars_of z ≤ 16) xs → All (λ z. vars_of z ≤ 16) ys
few_below [] [] all few k d h = absurd (omega (arith, h))
few_below [] (y ∷ ys) all few k d h = absurd all
few_below (x ∷ xs) [] all few k d h = absurd all
few_below (x ∷ xs) (y ∷ ys) all few zero d h = let v = all.0.0 in let f : vars_of x ≤ 16 = few 0 x (omega arith) in omega (arith, v, f)
few_below (x ∷ xs) (y ∷ ys) all few (suc k) d h = few_below xs ys all.1 (λ k d h. few (suc k) d (omega (arith, h))) k d (omega (arith, h))

pub loops_stay : (q : Quest) (xs : List Path) (j : ℕ) (raised : Bool) (s : ℕ) (ys : List Path) (s' : ℕ) (v : Seen q xs j raised s ys s') → loops_of ys ≡ loops_of xs
loops_stay q xs j raised s ys s' v =
    let f : Path → ℕ = λ path. length path.keeps in
    let h : sum_by f ys + f v.visited.old ≡ sum_by f xs + f v.visited.new = sum_moved f q xs j raised s ys s' v (λ x results. refl) in
    let same : length v.visited.new.keeps ≡ length v.visited.old.keeps = long_below v.visited.old.keeps v.visited.new.keeps v.visited.passed.keeps_rise in
    let a : loops_of ys ≡ sum_by f ys = refl in
    let b : loops_of xs ≡ sum_by f xs = refl in
    omega arith

pub few_stay : (q : Quest) (xs : List Path) (j : ℕ) (raised : Bool) (s : ℕ) (ys : List Path) (s' : ℕ) (v : Seen q xs j raised s ys s') → HaveFew xs → HaveFew ys
few_stay q xs j raised s ys s' v few i path' at =
    let b = back q xs j raised s ys s' v i path' at in
    ⊎_elim (λ (e : i ≡ j).
    let new : v.visited.new ≡ path' = some_same (sym (subst (λ k. slice_get ys k ≡ Some v.visited.new) (sym e) (new_at q xs j raised s ys s' v)) ∙ at) in
    subst (λ (p : Path). All (λ z. vars_of z ≤ 16) p.keeps) new (few_below v.visited.old.keeps v.visited.new.keeps v.visited.passed.keeps_rise (few j v.visited.old v.visited.old_is)))
    (λ (n : i ≡ j → ⊥). subst (λ (l : List Zone). All (λ z. vars_of z ≤ 16) l) (sym (b.2.keeps n)) (few i b.0 b.1))
    (cases_eq i j)
