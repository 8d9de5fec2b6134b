-- What is stored stays below every accepted table of threshold states.
use Rattle.vmv_snapshot.proofs.Links.{map_at}
use Rattle.vmv_cond.specs.Cond.{IsSubset, Holds as HoldsWord}
use Rattle.vmv_assumption.specs.Within.{IsBelow as IsLess}
use Rattle.vmv_zone.specs.Round.{IsThresholdState}
use Rattle.vmv_forward.proofs.States.{below_same}
use Rattle.std.proofs.Common.{◌≡◌, inl, inr, ⊎_elim, ℕ, zero, suc, ◌+◌, ◌≤◌, Bool, true, Option, Some, List, [], ◌∷◌, length, map, slice_get, refl, sym, ap, subst, arith, ◌∙◌, ℤ}
use Rattle.std.specs.List.{All, AllZip, Contains}
use Rattle.std.proofs.lemmas.Bool.{cases_eq}
use Rattle.vmv_tree.specs.Tree.{Item}
use Rattle.vmv_tree.specs.Run.{name_of}
use Rattle.vmv_cond.specs.declared.cond.Cond.{Cond}
use Rattle.vmv_snapshot.specs.declared.code.Code.{Code}
use Rattle.vmv_snapshot.specs.declared.code.ProcId.{ProcId}
use Rattle.vmv_snapshot.specs.View.{code_of}
use Rattle.vmv_snapshot.specs.Procs.{params_of}
use Rattle.vmv_snapshot.specs.Resolution.{Resolution, IsResolution, procs_of, tree_of}
use Rattle.vmv_zone.specs.declared.zone.Zone.{Zone}
use Rattle.vmv_zone.specs.Zone.{vars_of, IsBelow, IsNormal}
use Rattle.vmv_zone.proofs.States.{below_trans}
use Rattle.vmv_assumption.specs.Assumed.{Assumed}
use Rattle.vmv_cert.specs.declared.row.Row.{Row}
use Rattle.vmv_cert.specs.Walk.{goes, fails, Returns}
use Rattle.vmv_cert.specs.Sizes.{block_loops}
use Rattle.vmv_cert.specs.declared.row.Reach.{Reach}
use Rattle.vmv_cert.specs.declared.row.Reach.TheVariants.{Bottom, Value}
use Rattle.vmv_cert.specs.Tables.{IsFormed, IsAbove, WalksBody, WalksRow, Accepted}
use Rattle.vmv_check.specs.Walker.{HasParams}
use Rattle.vmv_check.proofs.Above.{procs_once}
use Rattle.vmv_check.proofs.Orders.{name_at}
use Rattle.vmv_check.proofs.Lists.{some_same, within, item_at}
use Rattle.vmv_pass.specs.Callees.{block_callees}
use Rattle.vmv_pass.specs.Source.{Source, by_row, by_stored, assumed_in, input_in, keeps_in, result_in, Answers}
use Rattle.vmv_pass.specs.Holds.{HoldsRow}
use Rattle.vmv_pass.specs.Upper.{IsProc, IsUnder, IsBelowCall, IsUpper, AreResultsUnder}
use Rattle.vmv_pass.proofs.Calls.{row_calls}
use Rattle.vmv_pass.proofs.Bodies.{facts_of}
use Rattle.vmv_forward.specs.Path.{Path}
use Rattle.vmv_forward.specs.Paths.{IsCallee, IsGrown}
use Rattle.vmv_forward.specs.Rounds.{Quest, stored_of, walk_of, HasInput, HasResult, AreFit, AreKept, Rival, of_table, of_paths, IsRival, IsOf, AreLow}
use Rattle.vmv_forward.proofs.Sets.{zip_at}
use Rattle.vmv_forward.proofs.CallSizes.{block_sized}
use Rattle.vmv_forward.proofs.Visiting.{Seen, back, new_at, input_before, result_before, range_is, grown_stays, fit_stays}

-- a row that passes is formed for a procedure, and its walk through that goes on to the end
pub record Goes (program : Resolution) (assumed : Assumed) (rows : List Row) (row : Row) : Type 0 where
  pub number : ℕ
  pub item : Item
  pub code : Code
  pub end : Zone
  pub formed : IsFormed program row number item code
  pub walks : WalksBody (record { program = program; assumed = assumed; rows = rows; row = row }) item code (goes end)

stuck : {P : Type 0} (z : Zone) (n : ℕ) → goes z ≡ fails n → P
stuck z n e = absurd (cc)

goes_of : (program : Resolution) (assumed : Assumed) (rows : List Row) (row : Row) (z : Zone) → WalksRow (record { program = program; assumed = assumed; rows = rows; row = row }) (goes z) → Goes program assumed rows row
goes_of program assumed rows row z (inl x) = stuck z 0 x.1
goes_of program assumed rows row z (inr (n, item, code, formed, body)) = record { number = n; item = item; code = code; end = z; formed = formed; walks = body }

pub accepted_goes : (program : Resolution) (assumed : Assumed) (rows : List Row) (row : Row) → Accepted program assumed rows → Contains rows row → Goes program assumed rows row
accepted_goes program assumed rows row all one = let p = all row one in goes_of program assumed rows row p.0 p.1

-- a row that is formed is formed for the procedure that has its name
pub formed_at : (program : Resolution) (row : Row) (n m : ℕ) (item : Item) (code : Code) → IsResolution program → IsFormed program row n item code → slice_get (map name_of (procs_of program)) m ≡ Some row.proc → IsFormed program row m item code
formed_at program row n m item code is f named =
    let e : n ≡ m = procs_once (tree_of program) is.valid n m row.proc (name_at program n item row.proc f.place f.named) named in
    subst (λ k. IsFormed program row k item code) e f

pub same_proc : (program : Resolution) (n : ℕ) (item item' : Item) (code code' : Code) → IsProc program n item code → IsProc program n item' code' → (item ≡ item') × (code ≡ code')
same_proc program n item item' code code' a b = (some_same (sym a.place ∙ b.place), some_same (sym a.code_is ∙ b.code_is))

pub proc_of : (program : Resolution) (row : Row) (n : ℕ) (item : Item) (code : Code) → IsFormed program row n item code → IsProc program n item code
proc_of program row n item code f = record { place = f.place; code_is = f.code_is }

only_one : {X : Type 0} (x y : X) (n : ℕ) → slice_get (x ∷ []) n ≡ Some y → (n ≡ 0) × (x ≡ y)
only_one x y zero e = (refl, some_same e)
only_one x y (suc n) e = absurd (cc)

called_by : (q : Quest) (xs : List Path) (i : ℕ) (path caller : Path) (n : ℕ) → slice_get xs i ≡ Some path → slice_get caller.callees path.place ≡ Some i → IsCallee xs path.caller caller path.place n → path.proc.0 ≡ n
called_by q xs i path caller n at called c =
    let same : c.number ≡ i = some_same (sym c.number_is ∙ called) in
    let one : c.callee ≡ path = some_same (sym c.there ∙ (ap (slice_get xs) same ∙ at)) in
    ap (λ (x : Path). x.proc.0) (sym one) ∙ c.proc_is

-- the input of an instance is normal and over the procedure's parameters
pub input_fits : (q : Quest) (xs : List Path) (i : ℕ) (path : Path) (input : Zone) → IsGrown q.program q.entry xs → AreFit q xs → 1 ≤ i → slice_get xs i ≡ Some path → HasInput xs path input → HasParams q.program path.proc.0 (vars_of input) × IsNormal input
input_fits q xs i path input grown fit one at (caller, there, has) =
    let p = grown.placed i path one at in
    let same : p.caller ≡ caller = some_same (sym p.there ∙ there) in
    let called = subst (λ (x : Path). slice_get x.callees path.place ≡ Some i) same p.called in
    ⊎_elim (λ (e : path.caller ≡ 0).
    let outer : slice_get xs 0 ≡ Some caller = subst (λ k. slice_get xs k ≡ Some caller) e there in
    let out : grown.outside ≡ caller = some_same (sym grown.outside_is ∙ outer) in
    let f = fit.outside caller outer in
    let only = only_one q.input input path.place (subst (λ (l : List Zone). slice_get l path.place ≡ Some input) f.0 has) in
    let first = subst (λ (x : Path). IsCallee xs 0 x 0 q.entry) out grown.first in
    let first' = subst (λ k. IsCallee xs k caller 0 q.entry) (sym e) first in
    let proc = called_by q xs i path caller q.entry at called (subst (λ k. IsCallee xs path.caller caller k q.entry) (sym only.0) first') in (
      subst (λ k. HasParams q.program k (vars_of input)) (sym proc) (subst (λ (z : Zone). HasParams q.program q.entry (vars_of z)) only.1 fit.entry),
      subst IsNormal only.1 fit.normal,
    ))
    (λ (n : path.caller ≡ 0 → ⊥).
    let from : 1 ≤ path.caller = omega arith in
    let link = grown.linked path.caller caller from there in
    let f = fit.each path.caller caller link.item link.code from there link.proc in
    let z = zip_at (λ (callee : ProcId) (z : Zone). HasParams q.program callee.0 (vars_of z) × IsNormal z) (block_callees (code_of link.code).block) caller.inputs path.place input f.inputs has in
    let proc = called_by q xs i path caller z.0.0 at called (link.each path.place z.0 z.1) in
    (subst (λ k. HasParams q.program k (vars_of input)) (sym proc) z.2.0, z.2.1))
    (cases_eq path.caller 0)

-- a result is stored for each instance
pub result_there : (q : Quest) (xs : List Path) (i : ℕ) (path : Path) → IsGrown q.program q.entry xs → AreFit q xs → 1 ≤ i → slice_get xs i ≡ Some path → (r : Cond) × HasResult xs path r
result_there q xs i path grown fit one at =
    let p = grown.placed i path one at in
    let inside = within p.caller.callees path.place i p.called in
    ⊎_elim (λ (e : path.caller ≡ 0).
    let outer : slice_get xs 0 ≡ Some p.caller = subst (λ k. slice_get xs k ≡ Some p.caller) e p.there in
    let out : grown.outside ≡ p.caller = some_same (sym grown.outside_is ∙ outer) in
    let f = fit.outside p.caller outer in
    let few : length p.caller.callees ≡ 1 = ap (λ (x : Path). length x.callees) (sym out) ∙ ap length grown.calls in
    let long = f.1 in
    let r = item_at p.caller.results path.place (omega arith) in
    (r.0, (p.caller, p.there, r.1)))
    (λ (n : path.caller ≡ 0 → ⊥).
    let from : 1 ≤ path.caller = omega arith in
    let link = grown.linked path.caller p.caller from p.there in
    let f = fit.each path.caller p.caller link.item link.code from p.there link.proc in
    let count = link.count in
    let long = f.results in
    let r = item_at p.caller.results path.place (omega arith) in
    (r.0, (p.caller, p.there, r.1)))
    (cases_eq path.caller 0)

pub params_item : (program : Resolution) (n count : ℕ) (item : Item) → slice_get (procs_of program) n ≡ Some item → HasParams program n count → count ≡ length (params_of item)
params_item program n count item at has =
    let m = map_at (λ i. length (params_of i)) (procs_of program) n count has in
    let same : m.0 ≡ item = some_same (sym m.1 ∙ at) in
    sym m.2 ∙ ap (λ (i : Item). length (params_of i)) same

-- what is known of a rival's source: its states and its input
pub record IsSourceAt (q : Quest) (n : ℕ) (item : Item) (code : Code) (top : Zone) (source : Source) : Type 0 where
  pub assumed : assumed_in source ≡ q.assumed
  pub keeps : length (keeps_in source) ≡ block_loops (code_of code).block
  pub over : All (λ z. vars_of z ≡ code.vars) (keeps_in source)
  pub thresholds : All (IsThresholdState q.thresholds) (keeps_in source)
  pub params : vars_of (input_in source) ≡ length (params_of item)
  pub vars : vars_of top ≡ length (params_of item)
  pub under : IsBelow top (input_in source)

pub source_at : (q : Quest) (rival : Rival) (n : ℕ) (item : Item) (code : Code) (top : Zone) (source : Source) → IsRival q rival → IsProc q.program n item code → IsOf q rival n top source → IsSourceAt q n item code top source
source_at q (of_table rows) n item code top source rival proc (row, at, is) =
    let same = same_proc q.program n at.item item at.code code (proc_of q.program row n at.item at.code at.formed) proc in
    let formed : IsFormed q.program row n item code = subst (λ (i : Item). IsFormed q.program row n i code) same.0 (subst (λ (c : Code). IsFormed q.program row n at.item c) same.1 at.formed) in
    subst (IsSourceAt q n item code top) (sym is) (record {
      assumed = refl;
      keeps = formed.keeps;
      over = formed.over;
      thresholds = rival.thresholds row at.among;
      params = formed.input;
      vars = ap (λ (z : Zone). z.vars) (sym at.input) ∙ formed.input;
      under = subst (λ (z : Zone). IsBelow z row.input) at.input (below_same row.input);
    })
source_at q (of_paths paths) n item code top source rival proc (range, path, at, is) =
    let proc' : IsProc q.program path.proc.0 item code = subst (λ k. IsProc q.program k item code) (sym at.proc) proc in
    let fits = rival.fit.each at.number path item code at.one at.at proc' in
    let input = input_fits q paths at.number path top rival.grown rival.fit at.one at.at at.input in
    let params = params_item q.program path.proc.0 (vars_of top) item proc'.place input.0 in
    subst (IsSourceAt q n item code top) (sym is) (record {
      assumed = refl;
      keeps = fits.keeps;
      over = fits.over;
      thresholds = fits.thresholds;
      params = params;
      vars = params;
      under = below_same top;
    })

returns_of : (r : Reach) (c : Cond) (word : ℤ) → IsAbove r c → HoldsWord c word → Returns r word
returns_of Bottom c word above held = absurd (above word held)
returns_of (Value d) c word above held = above word held

-- the instance of a call, with an input below these arguments of the call of its procedure
record IsChild (q : Quest) (xs : List Path) (callee : ProcId) (args : Zone) (result : Cond) : Type 0 where
  number : ℕ
  one : 1 ≤ number
  to : Path
  at : slice_get xs number ≡ Some to
  proc : to.proc.0 ≡ callee.0
  input : Zone
  has : HasInput xs to input
  given : HasResult xs to result
  below : IsBelow input args
  sized : HasParams q.program callee.0 (vars_of args)

-- its result is below the rival's answer to such a call
answer_above : (q : Quest) (xs : List Path) (rival : Rival) (n c : ℕ) (item : Item) (code : Code) (callee : ProcId) (args top : Zone) (result cond : Cond) (source : Source) → IsResolution q.program → IsRival q rival → AreLow q xs rival →
    IsProc q.program n item code → slice_get (block_callees (code_of code).block) c ≡ Some callee → IsOf q rival n top source → Answers source c callee args cond → IsChild q xs callee args result → IsSubset result cond
answer_above q xs (of_table rows) n c item code callee args top result cond source resolution rival low proc called (row, at, is) answer child word held =
    let told : Answers (by_row (walk_of q rows row)) c callee args cond = subst (λ (s : Source). Answers s c callee args cond) is answer in
    (told.1 word).1
    (λ other m.
    let goes = accepted_goes q.program q.assumed rows other rival.accepted m.one in
    let named : slice_get (map name_of (procs_of q.program)) child.to.proc.0 ≡ Some other.proc = subst (λ k. slice_get (map name_of (procs_of q.program)) k ≡ Some other.proc) (sym child.proc) m.named in
    let formed = formed_at q.program other goes.number child.to.proc.0 goes.item goes.code resolution goes.formed named in
    let meets = row_calls (walk_of q rows other) goes.item goes.code goes.end goes.walks in
    let vars : args.vars ≡ other.input.vars = some_same (sym child.sized ∙ m.over) in
    let h = low child.number child.to child.input other.input goes.end result goes.item goes.code (by_row (walk_of q rows other)) meets.0 child.one child.at child.has child.given (proc_of q.program other child.to.proc.0 goes.item goes.code formed)
    (other, record { among = m.one; item = goes.item; code = goes.code; formed = formed; input = refl }, refl) (below_trans child.input args other.input vars child.below m.above) meets.1 in
    returns_of other.result result word h.1 held)
answer_above q xs (of_paths paths) n c item code callee args top result cond source resolution rival low proc called (range, path, at, is) answer child word held =
    let told : Answers (by_stored top range (stored_of q.assumed path)) c callee args cond = subst (λ (s : Source). Answers s c callee args cond) is answer in
    let link = rival.grown.linked at.number path at.one at.at in
    let proc' : IsProc q.program path.proc.0 item code = subst (λ k. IsProc q.program k item code) (sym at.proc) proc in
    let same : code ≡ link.code = (same_proc q.program path.proc.0 item link.item code link.code proc' link.proc).1 in
    let next = link.each c callee (subst (λ (x : Code). slice_get (block_callees (code_of x).block) c ≡ Some callee) same called) in
    let there : slice_get paths next.callee.caller ≡ Some path = subst (λ k. slice_get paths k ≡ Some path) (sym next.caller_is) at.at in
    let has : HasInput paths next.callee told.0 = (path, there, subst (λ k. slice_get path.inputs k ≡ Some told.0) (sym next.place_is) told.1) in
    let given : HasResult paths next.callee cond = (path, there, subst (λ k. slice_get path.results k ≡ Some cond) (sym next.place_is) told.3) in
    let one : 1 ≤ next.number = (let l = next.later in omega arith) in
    let own = rival.grown.linked next.number next.callee one next.there in
    let settled = rival.settled next.number one next.callee told.0 cond own.item own.code next.there has given own.proc in
    let fits = input_fits q paths next.number next.callee told.0 rival.grown rival.fit one next.there has in
    let over : HasParams q.program callee.0 (vars_of told.0) = subst (λ k. HasParams q.program k (vars_of told.0)) next.proc_is fits.0 in
    let vars : args.vars ≡ told.0.vars = some_same (sym child.sized ∙ over) in
    let to : next.callee.proc.0 ≡ child.to.proc.0 = next.proc_is ∙ sym child.proc in
    let h = low child.number child.to child.input told.0 settled.0 result own.item own.code (by_stored told.0 cond (stored_of q.assumed next.callee)) settled.1 child.one child.at child.has child.given
    (subst (λ k. IsProc q.program k own.item own.code) to own.proc) (cond, next.callee, record { number = next.number; one = one; at = next.there; proc = to; input = has; result = given }, refl)
    (below_trans child.input args told.0 vars child.below told.2) settled.2 in
    h.1 word held

-- the results that are stored for the calls of an instance are below the answers of a rival's walk
pub results_under : (q : Quest) (xs : List Path) (j : ℕ) (path : Path) (rival : Rival) (top end : Zone) (item : Item) (code : Code) (source : Source) (calls : List (Option Zone)) → IsResolution q.program → IsGrown q.program q.entry xs → 1 ≤ j →
    slice_get xs j ≡ Some path → IsRival q rival → AreLow q xs rival → IsProc q.program path.proc.0 item code → IsOf q rival path.proc.0 top source → HoldsRow source item code end calls → AllZip IsBelowCall path.inputs calls →
    AreResultsUnder source (block_callees (code_of code).block) calls path.results
results_under q xs j path rival top end item code source calls is grown from at rival_is low proc of holds inputs c callee args result cond called call stored answer =
    let link = grown.linked j path from at in
    let same : code ≡ link.code = (same_proc q.program path.proc.0 item link.item code link.code proc link.proc).1 in
    let child = link.each c callee (subst (λ (x : Code). slice_get (block_callees (code_of x).block) c ≡ Some callee) same called) in
    let z = zip_at IsBelowCall path.inputs calls c (Some args) inputs call in
    let there : slice_get xs child.callee.caller ≡ Some path = subst (λ k. slice_get xs k ≡ Some path) (sym child.caller_is) at in
    let facts = facts_of q.program path.proc.0 item code is proc in
    answer_above q xs rival path.proc.0 c item code callee args top result cond source is rival_is low proc called of answer
    (record {
      number = child.number;
      one = (let l = child.later in omega arith);
      to = child.callee;
      at = child.there;
      proc = child.proc_is;
      input = z.0;
      has = (path, there, subst (λ k. slice_get path.inputs k ≡ Some z.0) (sym child.place_is) z.1);
      given = (path, there, subst (λ k. slice_get path.results k ≡ Some result) (sym child.place_is) stored);
      below = z.2;
      sized = block_sized q.program source calls code.vars 0 0 (code_of code).block holds.start end facts.ready holds.holds c callee args called (subst (λ k. slice_get calls k ≡ Some (Some args)) (let e : c ≡ 0 + c = omega arith in e) call);
    })

-- what is stored at the same loops, inputs and sites is below the same walks
under_same : (source : Source) (calls : List (Option Zone)) (assumed : Assumed) (path path' : Path) → path'.keeps ≡ path.keeps → path'.inputs ≡ path.inputs → path'.unproved ≡ path.unproved → IsUnder source calls (stored_of assumed path) →
    IsUnder source calls (stored_of assumed path')
under_same source calls assumed path path' keeps inputs unproved u =
    record {
      keeps = subst (λ (l : List Zone). AllZip IsBelow l (keeps_in source)) (sym keeps) u.keeps;
      inputs = subst (λ (l : List Zone). AllZip IsBelowCall l calls) (sym inputs) u.inputs;
      unproved = λ i flag. u.unproved i (subst (λ (l : List Bool). slice_get l i ≡ Some true) unproved flag);
    }

pub low_stays : (q : Quest) (xs : List Path) (j : ℕ) (raised : Bool) (s : ℕ) (ys : List Path) (s' : ℕ) (v : Seen q xs j raised s ys s') → 1 ≤ j → AreKept q xs → (rival : Rival) → IsRival q rival → AreLow q ys rival
low_stays q xs j raised s ys s' v from kept rival rival_is i path' input top end result item code source calls one at has given proc of below holds =
    let o = v.visited in
    let b = back q xs j raised s ys s' v i path' at in
    let fit' = fit_stays q xs j raised s ys s' v from kept.fit in
    let grown' = grown_stays q xs j raised s ys s' v kept.grown in
    let fits = input_fits q ys i path' input grown' fit' one at has in
    let known = source_at q rival path'.proc.0 item code top source rival_is proc of in
    let vars : input.vars ≡ top.vars = params_item q.program path'.proc.0 (vars_of input) item proc.place fits.0 ∙ sym known.vars in
    let before = input_before q xs j raised s ys s' v i b.0 path' input b.2 has in
    let under = below_trans before.input input top vars before.below below in
    let proc' : IsProc q.program b.0.proc.0 item code = subst (λ (n : ProcId). IsProc q.program n.0 item code) b.2.proc proc in
    let of' : IsOf q rival b.0.proc.0 top source = subst (λ (n : ProcId). IsOf q rival n.0 top source) b.2.proc of in
    let low = kept.low rival rival_is in
    ⊎_elim (λ (e : i ≡ j).
    let r = result_there q xs i b.0 kept.grown kept.fit one b.1 in
    let h = low i b.0 before.input top end r.0 item code source calls one b.1 before.has r.1 proc' of' under holds in
    let old : b.0 ≡ o.old = b.2.here e in
    let new : o.new ≡ path' = some_same (sym (subst (λ k. slice_get ys k ≡ Some o.new) (sym e) (new_at q xs j raised s ys s' v)) ∙ at) in
    let mine : HasInput xs o.old before.input = subst (λ (x : Path). HasInput xs x before.input) old before.has in
    let caller : mine.0 ≡ o.caller = some_same (sym mine.1 ∙ o.caller_is) in
    let taken : before.input ≡ o.input = some_same (sym (subst (λ (x : Path). slice_get x.inputs o.old.place ≡ Some before.input) caller mine.2) ∙ o.input_is) in
    let proc_old = subst (λ (x : Path). IsProc q.program x.proc.0 item code) old proc' in
    let of_old = subst (λ (x : Path). IsOf q rival x.proc.0 top source) old of' in
    let under_old = subst (λ (x : Path). IsUnder source calls (stored_of q.assumed x)) old h.0 in
    let results = results_under q xs j o.old rival top end item code source calls kept.resolution kept.grown from o.old_is rival_is low proc_old of_old holds under_old.inputs in
    let above : IsBelow before.input (input_in source) = below_trans before.input top (input_in source) (known.vars ∙ sym known.params) under known.under in
    let up : IsUpper q.program o.old.proc.0 q.thresholds o.input (stored_of q.assumed o.old) source item code end calls = record {
      proc = proc_old;
      assumed = subst (λ (A : Assumed). IsLess q.assumed A) (sym known.assumed) (λ name word held. held);
      params = known.params;
      over = known.over;
      thresholds = known.thresholds;
      above = subst (λ (z : Zone). IsBelow z (input_in source)) taken above;
      holds = holds;
      results = results;
    } in
    let g = o.passed.under source item code end calls up under_old in
    let range : result ≡ o.range = range_is q xs j raised s ys s' v i b.0 path' result e (kept.grown.placed i b.0 one b.1) b.2 given in
    (subst (λ (x : Path). IsUnder source calls (stored_of q.assumed x)) new g.0, subst (λ (c : Cond). IsAbove (result_in source) c) (sym range) g.1))
    (λ (n : i ≡ j → ⊥).
    let mine : HasResult xs b.0 result = ⊎_elim (λ (h : (i ≡ j) × (result ≡ o.range)). absurd (n h.0)) (λ (h : HasResult xs b.0 result). h)
    (result_before q xs j raised s ys s' v i b.0 path' result (kept.grown.placed i b.0 one b.1) b.2 given) in
    let h = low i b.0 before.input top end result item code source calls one b.1 before.has mine proc' of' under holds in
    (under_same source calls q.assumed b.0 path' (b.2.keeps n) (b.2.inputs n) (b.2.unproved n) h.0, h.1))
    (cases_eq i j)

-- what is kept stays so
pub kept_stays : (q : Quest) (xs : List Path) (j : ℕ) (raised : Bool) (s : ℕ) (ys : List Path) (s' : ℕ) (v : Seen q xs j raised s ys s') → 1 ≤ j → AreKept q xs → AreKept q ys
kept_stays q xs j raised s ys s' v from kept =
    record {
      resolution = kept.resolution;
      scale = kept.scale;
      grown = grown_stays q xs j raised s ys s' v kept.grown;
      fit = fit_stays q xs j raised s ys s' v from kept.fit;
      low = low_stays q xs j raised s ys s' v from kept;
    }
