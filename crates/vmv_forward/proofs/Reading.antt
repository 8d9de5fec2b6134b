-- What a visit reads: an instance, its caller, and what is stored for it there.
use Rattle.std.proofs.Common.{◌≡◌, ⊎_elim, ℕ, ◌<◌, ◌≤◌, Bool, Some, List, map, length, slice_get, get_or, sym, ap, subst, arith, ◌∙◌}
use Rattle.std.specs.Prelude.{slice_set}
use Rattle.std.proofs.lemmas.Bool.{cases_eq}
use Rattle.std.proofs.lemmas.Slice.Zip.{AllZip-long}
use Rattle.vmv_tree.specs.Tree.{Item}
use Rattle.vmv_cond.specs.declared.cond.Cond.{Cond}
use Rattle.vmv_snapshot.specs.declared.code.Code.{Code}
use Rattle.vmv_snapshot.specs.declared.code.ProcId.{ProcId}
use Rattle.vmv_snapshot.specs.View.{code_of}
use Rattle.vmv_snapshot.specs.Procs.{params_of}
use Rattle.vmv_snapshot.specs.Resolution.{procs_of}
use Rattle.vmv_zone.specs.declared.zone.Zone.{Zone}
use Rattle.vmv_zone.specs.Zone.{vars_of, IsNormal}
use Rattle.vmv_check.specs.Walker.{HasParams}
use Rattle.std.specs.Option.{option_map}
use Rattle.std.proofs.lemmas.Option.{slice_get-map}
use Rattle.vmv_check.proofs.Lists.{some_same, within, at_place}
use Rattle.vmv_pass.specs.Callees.{block_callees}
use Rattle.vmv_pass.specs.Upper.{IsProc}
use Rattle.vmv_forward.specs.Path.{Path}
use Rattle.vmv_forward.specs.Paths.{IsGrown}
use Rattle.vmv_forward.specs.Rounds.{Quest, HasInput, AreFit, AreKept, IsVisited, IsPassed}
use Rattle.vmv_forward.proofs.Sets.{get_other}
use Rattle.vmv_forward.proofs.Low.{input_fits}
use Rattle.vmv_forward.proofs.Visiting.{Seen}

-- the caller has an input and a result at the place of the instance
pub caller_counts : (q : Quest) (xs : List Path) (i : ℕ) (path caller : Path) → IsGrown q.program q.entry xs → AreFit q xs → 1 ≤ i → slice_get xs i ≡ Some path → slice_get xs path.caller ≡ Some caller →
    (path.place < length caller.inputs) × (path.place < length caller.results)
caller_counts q xs i path caller grown fit one at there =
    let p = grown.placed i path one at in
    let same : p.caller ≡ caller = some_same (sym p.there ∙ there) in
    let inside = within caller.callees path.place i (subst (λ (x : Path). slice_get x.callees path.place ≡ Some i) same p.called) in
    ⊎_elim (λ (e : path.caller ≡ 0).
    let outer : slice_get xs 0 ≡ Some caller = subst (λ k. slice_get xs k ≡ Some caller) e there in
    let out : grown.outside ≡ caller = some_same (sym grown.outside_is ∙ outer) in
    let f = fit.outside caller outer in
    let few : length caller.callees ≡ 1 = ap (λ (x : Path). length x.callees) (sym out) ∙ ap length grown.calls in
    let one : length caller.inputs ≡ 1 = ap length f.0 in
    let two = f.1 in
    (omega arith, omega arith))
    (λ (n : path.caller ≡ 0 → ⊥).
    let from : 1 ≤ path.caller = omega arith in
    let link = grown.linked path.caller caller from there in
    let f = fit.each path.caller caller link.item link.code from there link.proc in
    let count = link.count in
    let one : length caller.inputs ≡ length (block_callees (code_of link.code).block) = AllZip-long (λ (callee : ProcId) (z : Zone). HasParams q.program callee.0 (vars_of z) × IsNormal z) (block_callees (code_of link.code).block) caller.inputs f.inputs in
    let two = f.results in
    (omega arith, omega arith))
    (cases_eq path.caller 0)

-- what is read of instance j
pub record Reads (q : Quest) (xs : List Path) (j : ℕ) (path : Path) : Type 0 where
  pub at : slice_get xs j ≡ Some path
  pub before : path.caller < j
  pub inside : path.caller < length xs
  pub caller : Path
  pub there : slice_get xs path.caller ≡ Some caller
  pub called : slice_get caller.callees path.place ≡ Some j
  pub input : path.place < length caller.inputs
  pub result : path.place < length caller.results

pub reads : (q : Quest) (xs : List Path) (j : ℕ) (path : Path) → AreKept q xs → 1 ≤ j → j < length xs → path ≡ get_or xs j path → Reads q xs j path
reads q xs j path kept one h is =
    let at = at_place xs j path h is in
    let p = kept.grown.placed j path one at in
    let counts = caller_counts q xs j path p.caller kept.grown kept.fit one at p.there in
    record { at = at; before = p.before; inside = (let b = p.before in omega arith); caller = p.caller; there = p.there; called = p.called; input = counts.0; result = counts.1 }

-- the caller that was read
pub read_caller : (q : Quest) (xs : List Path) (j : ℕ) (path caller : Path) → Reads q xs j path → caller ≡ get_or xs path.caller caller → slice_get xs path.caller ≡ Some caller
read_caller q xs j path caller r is = at_place xs path.caller caller r.inside is

pub input_read : (q : Quest) (xs : List Path) (j : ℕ) (path caller : Path) → Reads q xs j path → caller ≡ get_or xs path.caller caller → path.place < length caller.inputs
input_read q xs j path caller r is =
    let same : r.caller ≡ caller = some_same (sym r.there ∙ at_place xs path.caller caller r.inside is) in
    subst (λ (x : Path). path.place < length x.inputs) same r.input

pub result_read : (q : Quest) (xs : List Path) (j : ℕ) (path caller : Path) → Reads q xs j path → caller ≡ get_or xs path.caller caller → path.place < length caller.results
result_read q xs j path caller r is =
    let same : r.caller ≡ caller = some_same (sym r.there ∙ at_place xs path.caller caller r.inside is) in
    subst (λ (x : Path). path.place < length x.results) same r.result

-- the procedure of an instance is one of the program's
pub proc_inside : (q : Quest) (xs : List Path) (j : ℕ) (path : Path) → AreKept q xs → 1 ≤ j → slice_get xs j ≡ Some path → path.proc.0 < length (procs_of q.program)
proc_inside q xs j path kept one at = let link = kept.grown.linked j path one at in within (procs_of q.program) path.proc.0 link.item link.proc.place

-- the input that is read is over the procedure's parameters
pub input_over : (q : Quest) (xs : List Path) (j : ℕ) (path : Path) (input : Zone) (item : Item) (code : Code) → AreKept q xs → 1 ≤ j → slice_get xs j ≡ Some path → HasInput xs path input → IsProc q.program path.proc.0 item code →
    vars_of input ≡ length (params_of item)
input_over q xs j path input item code kept one at has is =
    let f = input_fits q xs j path input kept.grown kept.fit one at has in
    let e : slice_get (map (λ (x : Item). length (params_of x)) (procs_of q.program)) path.proc.0 ≡ Some (length (params_of item)) = slice_get-map (λ (x : Item). length (params_of x)) (procs_of q.program) path.proc.0 ∙ ap (option_map (λ (x : Item). length (params_of x))) is.place in
    some_same (sym f.0 ∙ e)

-- a visit that is made of what was read
pub made : (q : Quest) (xs : List Path) (j : ℕ) (path caller new caller' : Path) (input : Zone) (range : Cond) (raised : Bool) (s s' : ℕ) → Reads q xs j path → caller ≡ get_or xs path.caller caller →
    caller' ≡ get_or (slice_set xs j new) path.caller caller' → slice_get caller.inputs path.place ≡ Some input → IsPassed q input path new range raised s s' → (last : Path) →
    last ≡ record caller' { results = slice_set caller'.results path.place range } → IsVisited q xs j raised s (slice_set (slice_set xs j new) path.caller last) s'
made q xs j path caller new caller' input range raised s s' r is is' has passed last last_is =
    let here = at_place xs path.caller caller r.inside is in
    let apart : path.caller ≡ j → ⊥ = λ e. (let b = r.before in omega arith) in
    let still : slice_get (slice_set xs j new) path.caller ≡ Some caller = get_other xs j path.caller new apart ∙ here in
    let there = at_place (slice_set xs j new) path.caller caller' (within (slice_set xs j new) path.caller caller still) is' in
    let same : caller' ≡ caller = some_same (sym there ∙ still) in
    record {
      old = path;
      old_is = r.at;
      caller = caller;
      caller_is = here;
      input = input;
      input_is = has;
      new = new;
      range = range;
      passed = passed;
      changed = ap (λ (x : Path). slice_set (slice_set xs j new) path.caller x) (last_is ∙ ap (λ (x : Path). record x { results = slice_set x.results path.place range }) same);
    }

-- a visit of an instance that hangs together with the others
pub seen : (q : Quest) (xs : List Path) (j : ℕ) (raised : Bool) (s : ℕ) (ys : List Path) (s' : ℕ) → AreKept q xs → 1 ≤ j → IsVisited q xs j raised s ys s' → Seen q xs j raised s ys s'
seen q xs j raised s ys s' kept one v =
    let p = kept.grown.placed j v.old one v.old_is in
    let same : p.caller ≡ v.caller = some_same (sym p.there ∙ v.caller_is) in
    record { visited = v; before = p.before; called = subst (λ (x : Path). slice_get x.callees v.old.place ≡ Some j) same p.called }

-- the same of the instance as it is seen
pub reads_view : (q : Quest) (xs : List Path) (j : ℕ) (path : Path) → AreKept q xs → 1 ≤ j → j < length xs → path ≡ get_or xs j path → (v : Path) → v ≡ get_or xs j path → Reads q xs j v
reads_view q xs j path kept one h is v same = subst (Reads q xs j) (is ∙ sym same) (reads q xs j path kept one h is)
