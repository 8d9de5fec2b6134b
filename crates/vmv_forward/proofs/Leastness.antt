-- What is stored for instances, and the sites that their rows list, is below each accepted table of threshold states.
use Rattle.vmv_snapshot.specs.View.{code_of}
use Rattle.std.proofs.Common.{◌≡◌, inl, inr, ℕ, ◌+◌, ◌-◌, ◌≤◌, true, Option, Some, None, List, [], ◌∷◌, map, slice_get, refl, sym, ap, subst, arith, ◌∙◌}
use Rattle.std.specs.List.{All, AllZip, Contains}
use Rattle.vmv_tree.specs.declared.name.Name.{Name}
use Rattle.vmv_tree.specs.declared.ends.NameEnds.{NameEnds}
use Rattle.vmv_tree.specs.declared.site.NamedSite.{NamedSite}
use Rattle.vmv_tree.specs.Run.{name_of}
use Rattle.vmv_tree.specs.Tree.{Item}
use Rattle.vmv_cond.specs.declared.cond.Cond.{Cond}
use Rattle.vmv_snapshot.specs.declared.code.Code.{Code}
use Rattle.vmv_snapshot.specs.Resolution.{Resolution, IsResolution, procs_of, tree_of}
use Rattle.vmv_zone.specs.declared.zone.Zone.{Zone}
use Rattle.vmv_zone.specs.Zone.{vars_of, bound_of, NotBottom, IsBelow, IsNormOf}
use Rattle.vmv_zone.specs.Round.{IsThresholdState}
use Rattle.vmv_zone.proofs.Equal.{clash, norm_once}
use Rattle.vmv_zone.proofs.States.{below_trans}
use Rattle.vmv_assumption.specs.Assumed.{Assumed}
use Rattle.vmv_cert.specs.declared.row.Row.{Row}
use Rattle.vmv_cert.specs.declared.row.Reach.{Reach}
use Rattle.vmv_cert.specs.declared.row.Reach.TheVariants.{Bottom, Value}
use Rattle.vmv_cert.specs.Walk.{Walk, IsMatch}
use Rattle.vmv_cert.specs.Tables.{IsFormed, IsAbove, Accepted, HasThresholds}
use Rattle.vmv_thresholds.specs.Thresholds.{AreThresholds}
use Rattle.vmv_check.specs.Walker.{HasParams}
use Rattle.vmv_check.proofs.Lists.{some_same, within, item_at, all_of, of_all}
use Rattle.vmv_check.proofs.Orders.{name_at}
use Rattle.vmv_check.proofs.Codes.{code_ready}
use Rattle.vmv_pass.specs.Source.{by_row}
use Rattle.vmv_pass.specs.Holds.{HoldsRow}
use Rattle.vmv_pass.proofs.Calls.{row_calls, met_rows}
use Rattle.vmv_forward.proofs.CallSizes.{block_sized}
use Rattle.vmv_forward.proofs.Low.{accepted_goes, formed_at}
use Rattle.vmv_pass.specs.Upper.{IsBelowCall, IsUnder}
use Rattle.vmv_forward.specs.Path.{Path}
use Rattle.vmv_forward.specs.Least.{IsReachBelow, IsNoMore, IsLeastRow}
use Rattle.vmv_forward.specs.Rounds.{Quest, AreKept, AreAccepted, of_table, HasInput, HasResult, stored_of, walk_of}
use Rattle.vmv_forward.specs.Rows.{Leads, IsFlagged, IsReachOf, IsRowOf}
use Rattle.vmv_forward.proofs.Items.{zip_at, beside_right}
use Rattle.vmv_forward.proofs.Instances.{AreSolved, Known, known_as, CallOf, call_of, result_of, input_of, normal_norm}

-- the walk of a row of the procedure of this number holds
pub record Holding (program : Resolution) (assumed : Assumed) (rows : List Row) (n : ℕ) (row : Row) : Type 0 where
  pub item : Item
  pub code : Code
  pub formed : IsFormed program row n item code
  pub end : Zone
  pub calls : List (Option Zone)
  pub holds : HoldsRow (by_row (record { program = program; assumed = assumed; rows = rows; row = row })) item code end calls

-- of each row of an accepted table it does
pub holding : (program : Resolution) (assumed : Assumed) (rows : List Row) (n : ℕ) (row : Row) → IsResolution program → Accepted program assumed rows → Contains rows row → slice_get (map name_of (procs_of program)) n ≡ Some row.proc →
    Holding program assumed rows n row
holding program assumed rows n row is accepted among named =
    let g = accepted_goes program assumed rows row accepted among in
    let met = row_calls (record { program = program; assumed = assumed; rows = rows; row = row }) g.item g.code g.end g.walks in
    record { item = g.item; code = g.code; formed = formed_at program row g.number n g.item g.code is g.formed named; end = g.end; calls = met.0; holds = met.1 }

-- instance j, its input and its result
pub record IsAt (paths : List Path) (j : ℕ) (path : Path) (input : Zone) (result : Cond) : Type 0 where
  pub one : 1 ≤ j
  pub at : slice_get paths j ≡ Some path
  pub input_is : HasInput paths path input
  pub result_is : HasResult paths path result

-- a row of the instance's procedure, with an input above the instance's
pub record IsOver (program : Resolution) (rows : List Row) (path : Path) (input : Zone) (row : Row) : Type 0 where
  pub among : Contains rows row
  pub named : slice_get (map name_of (procs_of program)) path.proc.0 ≡ Some row.proc
  pub above : IsBelow input row.input

pub instance_low : (q : Quest) (paths : List Path) (rows : List Row) (j : ℕ) (path : Path) (input : Zone) (result : Cond) (row : Row) → AreKept q paths → AreAccepted q rows → IsAt paths j path input result → IsOver q.program rows path input row →
    (h : Holding q.program q.assumed rows path.proc.0 row) → IsUnder (by_row (walk_of q rows row)) h.calls (stored_of q.assumed path) × IsAbove row.result result
instance_low q paths rows j path input result row kept rival i o h =
    kept.low (of_table rows) rival j path input row.input h.end result h.item h.code (by_row (walk_of q rows row)) h.calls i.one i.at i.input_is i.result_is (record { place = h.formed.place; code_is = h.formed.code_is })
    (row, record { among = o.among; item = h.item; code = h.code; formed = h.formed; input = refl }, refl) o.above h.holds

same_site : (a b : NamedSite) → a.proc ≡ b.proc → a.index ≡ b.index → a ≡ b
same_site a b p i =
    let with : Name → ℕ → NamedSite = λ proc index. record { proc = proc; index = index } in
    ap (λ (x : Name). with x a.index) p ∙ ap (λ (x : ℕ). with b.proc x) i

-- a call whose input isn't Bottom is met
pub met_args : (calls : List (Option Zone)) (c : ℕ) (input : Zone) (o : Option Zone) → slice_get calls c ≡ Some o → NotBottom input → IsBelowCall input o → (args : Zone) × (slice_get calls c ≡ Some (Some args)) × IsBelow input args
met_args calls c input None at up none = clash input.bottom none up
met_args calls c input (Some args) at up below = (args, at, below)

-- the instance that is called, with its input and its result
pub called_at : (q : Quest) (paths : List Path) (j : ℕ) (path : Path) (item : Item) (code : Code) (c next : ℕ) (input : Zone) → Known q paths j path item code → slice_get paths j ≡ Some path → (call : CallOf q paths j path code c next input) →
    slice_get path.callees c ≡ Some next → (cond : Cond) × IsAt paths next call.to input cond
called_at q paths j path item code c next input known at call to =
    let inside = within path.callees c next to in
    let count = known.count in
    let results = known.fits.results in
    let r = item_at path.results c (omega arith) in
    (r.0, record { one = call.one; at = call.to_is; input_is = call.has; result_is = result_of paths j c path call.to r.0 at call.caller_is call.place_is r.1 })

-- the arguments and the input of a matching row are over the same variables
match_vars : (w : Walk) (callee : ℕ) (args : Zone) (row : Row) (m : IsMatch w callee args row) → HasParams w.program callee (vars_of args) → args.vars ≡ row.input.vars
match_vars w callee args row m over = some_same (sym over ∙ m.over)

-- a site that is flagged where calls lead is listed by each row above
listed_below : (q : Quest) (paths : List Path) (rows : List Row) (places : List ℕ) (k proc : ℕ) (site : NamedSite) (j : ℕ) (path : Path) (input : Zone) (result : Cond) (row : Row) → AreKept q paths → AreAccepted q rows →
    slice_get (map name_of (procs_of q.program)) proc ≡ Some site.proc → IsFlagged paths k proc site.index → IsAt paths j path input result → IsOver q.program rows path input row → Leads paths j places k → Contains row.unproved site
listed_below q paths rows [] k proc site j path input result row kept rival named (other, there, proc_is, from, flag) i o same =
    let h = holding q.program q.assumed rows path.proc.0 row kept.resolution rival.accepted o.among o.named in
    let u = instance_low q paths rows j path input result row kept rival i o h in
    let one : path ≡ other = some_same (sym i.at ∙ (ap (slice_get paths) same ∙ there)) in
    let number : path.proc.0 ≡ proc = ap (λ (p : Path). p.proc.0) one ∙ proc_is in
    let name : row.proc ≡ site.proc = some_same (sym o.named ∙ (ap (slice_get (map name_of (procs_of q.program))) number ∙ named)) in
    let own = u.0.unproved (site.index - 1) (subst (λ (p : Path). slice_get p.unproved (site.index - 1) ≡ Some true) (sym one) flag) in
    subst (Contains row.unproved) (same_site (record { proc = row.proc; index = site.index - 1 + 1 }) site name (omega arith)) own
listed_below q paths rows (place ∷ places) k proc site j path input result row kept rival named flagged i o (other, next, input1, at1, to, there, up, leads) =
    let h = holding q.program q.assumed rows path.proc.0 row kept.resolution rival.accepted o.among o.named in
    let u = instance_low q paths rows j path input result row kept rival i o h in
    let one : other ≡ path = some_same (sym at1 ∙ i.at) in
    let to' : slice_get path.callees place ≡ Some next = subst (λ (p : Path). slice_get p.callees place ≡ Some next) one to in
    let there' : slice_get path.inputs place ≡ Some input1 = subst (λ (p : Path). slice_get p.inputs place ≡ Some input1) one there in
    let known = known_as q paths j path h.item h.code kept i.one i.at (record { place = h.formed.place; code_is = h.formed.code_is }) in
    let call = call_of q paths j path h.item h.code place next input1 i.at known to' there' in
    let b = beside_right IsBelowCall path.inputs h.calls place input1 u.0.inputs there' in
    let a = met_args h.calls place input1 b.0 b.1 up (zip_at IsBelowCall path.inputs h.calls place input1 b.0 u.0.inputs there' b.1) in
    let coded = kept.resolution.resolves path.proc.0 h.code h.formed.code_is in
    let ready = code_ready q.program path.proc.0 h.code h.item kept.resolution coded h.formed.place in
    let w : Walk = walk_of q rows row in
    let answered = met_rows w h.item h.code h.end h.calls place call.callee a.0 h.holds call.callee_is a.1 in
    let zero_on : place ≡ 0 + place = omega arith in
    let sized = block_sized q.program (by_row w) h.calls h.code.vars 0 0 (code_of h.code).block h.holds.start h.end ready.block h.holds.holds place call.callee a.0 call.callee_is (subst (λ k. slice_get h.calls k ≡ Some (Some a.0)) zero_on a.1) in
    let at = called_at q paths j path h.item h.code place next input1 known i.at call to' in
    answered.1 site
    (λ row2 m. listed_below q paths rows places k proc site next call.to input1 at.0 row2 kept rival named flagged at.1
    (record {
      among = m.one;
      named = subst (λ n. slice_get (map name_of (procs_of q.program)) n ≡ Some row2.proc) (sym call.proc_is) m.named;
      above = below_trans input1 a.0 row2.input (match_vars w call.callee.0 a.0 row2 m sized) a.2 m.above;
    }) leads)

-- a result is below that of a row above
reach_under : (range : Cond) (low high : Reach) → IsReachOf range low → IsAbove high range → IsReachBelow low high
reach_under range low high (inl h) above = subst (λ (r : Reach). IsReachBelow r high) (sym h.1) tt
reach_under range low Bottom (inr h) above = absurd (h.0 above)
reach_under range low (Value d) (inr h) above = subst (λ (r : Reach). IsReachBelow r (Value d)) (sym h.1) above

-- the row of an instance says no more than each row above of such a table
pub row_no_more : (q : Quest) (paths : List Path) (rows : List Row) (j : ℕ) (row other : Row) → AreKept q paths → AreAccepted q rows → (is : IsRowOf q.program paths j row) → IsOver q.program rows is.path row.input other → IsNoMore row other
row_no_more q paths rows j row other kept rival is o =
    let h = holding q.program q.assumed rows is.path.proc.0 other kept.resolution rival.accepted o.among o.named in
    let i : IsAt paths j is.path row.input is.range = record { one = is.one; at = is.path_is; input_is = is.input; result_is = is.range_is } in
    let u = instance_low q paths rows j is.path row.input is.range other kept rival i o h in
    record {
      keeps = subst (λ (ks : List Zone). AllZip IsBelow ks other.keeps) (sym is.keeps) u.0.keeps;
      result = reach_under is.range row.result other.result is.result u.1;
      sites = λ site listed.
          (let l = (is.listed site).0 listed in
          let p = l.2 in
          listed_below q paths rows p.0 p.1 l.0 site j is.path row.input is.range other kept rival (name_at q.program l.0 l.1.item site.proc l.1.place l.1.named) p.3 i o p.2);
    }

-- the rows of an accepted table with the thresholds are threshold states
pub rival_of : (q : Quest) (ends : List NameEnds) (rows : List Row) → AreThresholds (tree_of q.program) q.entry ends q.thresholds → Accepted q.program q.assumed rows → HasThresholds q.program q.entry ends rows → AreAccepted q rows
rival_of q ends rows are accepted has = record {
  accepted = accepted;
  thresholds = λ row among. all_of (IsThresholdState q.thresholds) row.keeps (λ z kept up i j hi hj. (are.each (bound_of z i j)).1 (has row z among kept up i j hi hj));
}

-- and a table of threshold states has the thresholds
pub has_thresholds : (q : Quest) (ends : List NameEnds) (rows : List Row) → AreThresholds (tree_of q.program) q.entry ends q.thresholds → ((row : Row) → Contains rows row → All (IsThresholdState q.thresholds) row.keeps) →
    HasThresholds q.program q.entry ends rows
has_thresholds q ends rows are states row z among kept up i j hi hj = (are.each (bound_of z i j)).0 (of_all (IsThresholdState q.thresholds) row.keeps (states row among) z kept up i j hi hj)

-- the row of an instance is least
pub row_least : (q : Quest) (paths : List Path) (ends : List NameEnds) (j : ℕ) (row : Row) → AreSolved q paths → AreThresholds (tree_of q.program) q.entry ends q.thresholds → IsRowOf q.program paths j row →
    IsLeastRow q.program q.entry ends q.assumed row
row_least q paths ends j row solved are is rows other accepted has among named below =
    let input = input_of q paths j is.path row.input solved is.one is.path_is is.input in
    let same : below.under ≡ row.input = norm_once row.input below.under row.input below.under_norm (normal_norm row.input input.normal) in
    row_no_more q paths rows j row other solved.kept (rival_of q ends rows are accepted has) is
    (record {
      among = among;
      named = is.named ∙ ap (λ (x : Name). Some x) (sym named);
      above = below_trans row.input below.over other.input below.over_norm.vars (subst (λ (z : Zone). IsBelow z below.over) same below.below) below.over_norm.below;
    })
