-- Settled instances are compared with one another: what is stored for one is below what is stored for each of its procedure
-- whose input is above.
use Rattle.std.proofs.Common.{◌≡◌, ℕ, ◌+◌, ◌-◌, true, Option, Some, None, List, [], ◌∷◌, length, map, slice_get, refl, sym, ap, subst, arith, ◌∙◌}
use Rattle.vmv_tree.specs.Tree.{Item}
use Rattle.vmv_tree.specs.Run.{name_of}
use Rattle.vmv_cond.specs.declared.cond.Cond.{Cond}
use Rattle.vmv_cond.specs.Cond.{IsSubset}
use Rattle.vmv_cond.proofs.Same.{same_words}
use Rattle.vmv_snapshot.specs.declared.code.Code.{Code}
use Rattle.vmv_snapshot.specs.declared.code.ProcId.{ProcId}
use Rattle.vmv_snapshot.specs.View.{code_of}
use Rattle.vmv_snapshot.specs.Procs.{params_of}
use Rattle.vmv_snapshot.specs.Resolution.{procs_of}
use Rattle.vmv_zone.specs.declared.zone.Zone.{Zone}
use Rattle.vmv_zone.specs.Zone.{vars_of, IsBottom, NotBottom, IsBelow}
use Rattle.vmv_zone.proofs.Equal.{clash, below_both}
use Rattle.vmv_zone.proofs.States.{below_trans}
use Rattle.vmv_step.specs.Enter.{declared_count}
use Rattle.vmv_step.proofs.EnterPoints.{enter_normal}
use Rattle.vmv_cert.specs.declared.row.Row.{Row}
use Rattle.vmv_cert.specs.Tables.{IsSiteOf, AreSitesOf}
use Rattle.vmv_check.specs.Walker.{HasParams}
use Rattle.vmv_check.proofs.Lists.{some_same}
use Rattle.vmv_pass.specs.Callees.{block_callees}
use Rattle.vmv_pass.specs.Source.{by_stored}
use Rattle.vmv_pass.specs.Holds.{HoldsRow}
use Rattle.vmv_pass.specs.Upper.{IsProc, IsBelowCall, IsUnder}
use Rattle.vmv_pass.proofs.Bodies.{facts_of}
use Rattle.vmv_pass.proofs.Calls.{call_answered}
use Rattle.vmv_forward.specs.Path.{Path}
use Rattle.vmv_forward.specs.Rounds.{Quest, of_paths, AreLow, stored_of}
use Rattle.vmv_forward.specs.Rows.{Leads, IsFlagged, IsListed, IsReachOf, IsRowOf}
use Rattle.vmv_forward.proofs.Items.{zip_at, beside_right}
use Rattle.vmv_forward.proofs.CallSizes.{block_sized}
use Rattle.vmv_forward.proofs.States.{below_same, normal_floored}
use Rattle.vmv_forward.proofs.Reached.{block_ends}
use Rattle.vmv_forward.proofs.Instances.{AreSolved, known_at, known_as, call_of}
use Rattle.vmv_forward.proofs.Leastness.{IsAt, called_at, met_args}
use Rattle.vmv_forward.proofs.Alike.{keeps_both}

-- settled instances are their own rival
self_low : (q : Quest) (paths : List Path) → AreSolved q paths → AreLow q paths (of_paths paths)
self_low q paths solved = solved.kept.low (of_paths paths) (record { grown = solved.kept.grown; fit = solved.kept.fit; settled = solved.settled })

-- an instance's own walk, with the calls that it meets
pub record Own (q : Quest) (paths : List Path) (path : Path) (input : Zone) (result : Cond) : Type 0 where
  pub item : Item
  pub code : Code
  pub proc : IsProc q.program path.proc.0 item code
  pub end : Zone
  pub calls : List (Option Zone)
  pub holds : HoldsRow (by_stored input result (stored_of q.assumed path)) item code end calls

pub own_walk : (q : Quest) (paths : List Path) (j : ℕ) (path : Path) (input : Zone) (result : Cond) → AreSolved q paths → IsAt paths j path input result → Own q paths path input result
own_walk q paths j path input result solved i =
    let k = known_at q paths j path solved.kept i.one i.at in
    let s = solved.settled j i.one path input result k.0 k.1 i.at i.input_is i.result_is k.2.proc in
    record { item = k.0; code = k.1; proc = k.2.proc; end = s.0; calls = s.1; holds = s.2 }

pub beside : (q : Quest) (paths : List Path) (j k : ℕ) (path other : Path) (input top : Zone) (result range : Cond) → AreSolved q paths → IsAt paths j path input result → IsAt paths k other top range → path.proc.0 ≡ other.proc.0 →
    IsBelow input top → (own : Own q paths other top range) → IsUnder (by_stored top range (stored_of q.assumed other)) own.calls (stored_of q.assumed path) × IsSubset result range
beside q paths j k path other input top result range solved i o same below own =
    self_low q paths solved j path input top own.end result own.item own.code (by_stored top range (stored_of q.assumed other)) own.calls i.one i.at i.input_is i.result_is (subst (λ n. IsProc q.program n own.item own.code) (sym same) own.proc)
    (range, other, record { number = k; one = o.one; at = o.at; proc = sym same; input = o.input_is; result = o.result_is }, refl) below own.holds

-- the arguments of a call that is met are the input that is stored for it
pub own_args : (q : Quest) (paths : List Path) (j : ℕ) (path : Path) (input : Zone) (result : Cond) → AreSolved q paths → IsAt paths j path input result → (own : Own q paths path input result) → (c : ℕ) (callee : ProcId) (args given : Zone) →
    slice_get (block_callees (code_of own.code).block) c ≡ Some callee → slice_get own.calls c ≡ Some (Some args) → slice_get path.inputs c ≡ Some given → (args ≡ given) × NotBottom given
own_args q paths j path input result solved i own c callee args given called met there =
    let under = (beside q paths j j path path input input result result solved i i refl (below_same input) own).0 in
    let low : IsBelow given args = zip_at IsBelowCall path.inputs own.calls c given (Some args) under.inputs there met in
    let answer = call_answered (by_stored input result (stored_of q.assumed path)) own.item own.code own.end own.calls c callee args own.holds called met in
    let same : answer.1.0 ≡ given = some_same (sym answer.1.1 ∙ there) in
    let high : IsBelow args given = subst (λ (z : Zone). IsBelow args z) same answer.1.2 in
    let known = known_as q paths j path own.item own.code solved.kept i.one i.at own.proc in
    let k = known.each c callee called in
    let call = call_of q paths j path own.item own.code c k.number given i.at known k.number_is there in
    let is = solved.kept.resolution in
    let facts = facts_of q.program path.proc.0 own.item own.code is own.proc in
    let on : c ≡ 0 + c = omega arith in
    let met' = subst (λ n. slice_get own.calls n ≡ Some (Some args)) on met in
    let sized : HasParams q.program callee.0 (vars_of args) =
    block_sized q.program (by_stored input result (stored_of q.assumed path)) own.calls own.code.vars 0 0 (code_of own.code).block own.holds.start own.end facts.ready own.holds.holds c callee args called met' in
    let proc : call.callee ≡ callee = some_same (sym call.callee_is ∙ called) in
    let vars : args.vars ≡ given.vars = some_same (sym sized ∙ subst (λ (p : ProcId). HasParams q.program p.0 (vars_of given)) proc call.over) in
    let normal = (enter_normal (length (params_of own.item)) (declared_count own.item) own.code.vars input own.holds.start own.holds.entered).0 in
    let ends = block_ends q.program (by_stored input result (stored_of q.assumed path)) own.calls own.code.vars 0 0 (code_of own.code).block own.holds.start own.end known.fits.over own.holds.entered.vars (normal_floored own.holds.start normal) facts.ready
    own.holds.holds in
    let up : NotBottom args = ends.reached c callee args called met' in
    (below_both args given vars high low, (high up).not_bottom)

-- a call is met with the input that is stored for it, or isn't reached
pub record IsMetAs (calls : List (Option Zone)) (c : ℕ) (given : Zone) : Type 0 where
  pub reached : NotBottom given → slice_get calls c ≡ Some (Some given)
  pub unreached : IsBottom given → slice_get calls c ≡ Some None

met_case : (calls : List (Option Zone)) (c : ℕ) (given : Zone) (o : Option Zone) → slice_get calls c ≡ Some o → IsBelowCall given o → ((args : Zone) → slice_get calls c ≡ Some (Some args) → (args ≡ given) × NotBottom given) → IsMetAs calls c given
met_case calls c given None at low same = record { reached = λ up. clash given.bottom low up; unreached = λ none. at }
met_case calls c given (Some args) at low same =
    let e = same args at in
    record { reached = λ up. at ∙ ap (λ (z : Zone). Some (Some z)) e.0; unreached = λ none. clash given.bottom none e.1 }

pub own_call : (q : Quest) (paths : List Path) (j : ℕ) (path : Path) (input : Zone) (result : Cond) → AreSolved q paths → IsAt paths j path input result → (own : Own q paths path input result) → (c : ℕ) (callee : ProcId) (given : Zone) →
    slice_get (block_callees (code_of own.code).block) c ≡ Some callee → slice_get path.inputs c ≡ Some given → IsMetAs own.calls c given
own_call q paths j path input result solved i own c callee given called there =
    let under = (beside q paths j j path path input input result result solved i i refl (below_same input) own).0 in
    let b = beside_right IsBelowCall path.inputs own.calls c given under.inputs there in
    met_case own.calls c given b.0 b.1 (zip_at IsBelowCall path.inputs own.calls c given b.0 under.inputs there b.1)
    (λ args met. own_args q paths j path input result solved i own c callee args given called met there)

-- a site that is flagged where calls lead from an instance is one of each instance of its procedure whose input is above
pub listed_beside : (q : Quest) (paths : List Path) (places : List ℕ) (m proc index j k : ℕ) (path other : Path) (input top : Zone) (result range : Cond) → AreSolved q paths → IsAt paths j path input result → IsAt paths k other top range →
    path.proc.0 ≡ other.proc.0 → IsBelow input top → IsFlagged paths m proc index → Leads paths j places m → IsListed paths k proc index
listed_beside q paths [] m proc index j k path other input top result range solved i o same below (flagged, there, proc_is, from, flag) leads =
    let own = own_walk q paths k other top range solved o in
    let under = (beside q paths j k path other input top result range solved i o same below own).0 in
    let one : flagged ≡ path = some_same (sym there ∙ (ap (slice_get paths) (sym leads) ∙ i.at)) in
    let flag' = under.unproved (index - 1) (subst (λ (p : Path). slice_get p.unproved (index - 1) ≡ Some true) one flag) in
    let number : other.proc.0 ≡ proc = sym same ∙ (ap (λ (p : Path). p.proc.0) (sym one) ∙ proc_is) in
    let e : index - 1 + 1 - 1 ≡ index - 1 = omega arith in
    ([], k, refl, (other, o.at, number, from, subst (λ n. slice_get other.unproved n ≡ Some true) e flag'))
listed_beside q paths (place ∷ places) m proc index j k path other input top result range solved i o same below flagged (at, next, given, at_is, to, there, up, leads) =
    let own = own_walk q paths k other top range solved o in
    let under = (beside q paths j k path other input top result range solved i o same below own).0 in
    let one : at ≡ path = some_same (sym at_is ∙ i.at) in
    let to' : slice_get path.callees place ≡ Some next = subst (λ (p : Path). slice_get p.callees place ≡ Some next) one to in
    let there' : slice_get path.inputs place ≡ Some given = subst (λ (p : Path). slice_get p.inputs place ≡ Some given) one there in
    let b = beside_right IsBelowCall path.inputs own.calls place given under.inputs there' in
    let a = met_args own.calls place given b.0 b.1 up (zip_at IsBelowCall path.inputs own.calls place given b.0 under.inputs there' b.1) in
    let known = known_as q paths j path own.item own.code solved.kept i.one i.at (subst (λ n. IsProc q.program n own.item own.code) (sym same) own.proc) in
    let call = call_of q paths j path own.item own.code place next given i.at known to' there' in
    let answer = call_answered (by_stored top range (stored_of q.assumed other)) own.item own.code own.end own.calls place call.callee a.0 own.holds call.callee_is a.1 in
    let above = answer.1.0 in
    let known' = known_as q paths k other own.item own.code solved.kept o.one o.at own.proc in
    let child = known'.each place call.callee call.callee_is in
    let call' = call_of q paths k other own.item own.code place child.number above o.at known' child.number_is answer.1.1 in
    let c1 = called_at q paths j path own.item own.code place next given known i.at call to' in
    let c2 = called_at q paths k other own.item own.code place child.number above known' o.at call' child.number_is in
    let helper : call'.callee ≡ call.callee = some_same (sym call'.callee_is ∙ call.callee_is) in
    let facts = facts_of q.program other.proc.0 own.item own.code solved.kept.resolution own.proc in
    let on : place ≡ 0 + place = omega arith in
    let sized : HasParams q.program call.callee.0 (vars_of a.0) = block_sized q.program (by_stored top range (stored_of q.assumed other)) own.calls own.code.vars 0 0 (code_of own.code).block own.holds.start own.end facts.ready own.holds.holds place call.callee a.0 call.callee_is
    (subst (λ n. slice_get own.calls n ≡ Some (Some a.0)) on a.1) in
    let vars : vars_of a.0 ≡ vars_of above = some_same (sym sized ∙ subst (λ (p : ProcId). HasParams q.program p.0 (vars_of above)) helper call'.over) in
    let under' : IsBelow given above = below_trans given a.0 above vars a.2 answer.1.2 in
    let procs : call.to.proc.0 ≡ call'.to.proc.0 = call.proc_is ∙ (ap (λ (p : ProcId). p.0) (sym helper) ∙ sym call'.proc_is) in
    let l = listed_beside q paths places m proc index next child.number call.to call'.to given above c1.0 c2.0 solved c1.1 c2.1 procs under' flagged leads in
    (place ∷ l.0, l.1, (other, child.number, above, o.at, child.number_is, answer.1.1, (under' up).not_bottom, l.2), l.3)

-- the row of an instance is that of each instance of its procedure and input
pub row_moved : (q : Quest) (paths : List Path) (k j : ℕ) (row : Row) (path : Path) (result : Cond) → AreSolved q paths → (is : IsRowOf q.program paths k row) → IsAt paths j path row.input result → path.proc.0 ≡ is.path.proc.0 → IsRowOf q.program paths j row
row_moved q paths k j row path result solved is i same =
    let other = is.path in
    let o : IsAt paths k other row.input is.range = record { one = is.one; at = is.path_is; input_is = is.input; result_is = is.range_is } in
    let own = own_walk q paths k other row.input is.range solved o in
    let own' = own_walk q paths j path row.input result solved i in
    let up = beside q paths j k path other row.input row.input result is.range solved i o same (below_same row.input) own in
    let down = beside q paths k j other path row.input row.input is.range result solved o i (sym same) (below_same row.input) own' in
    let known = known_as q paths k other own.item own.code solved.kept o.one o.at own.proc in
    let known' = known_as q paths j path own.item own.code solved.kept i.one i.at (subst (λ n. IsProc q.program n own.item own.code) (sym same) own.proc) in
    let keeps : other.keeps ≡ path.keeps = keeps_both own.code.vars other.keeps path.keeps known.fits.over known'.fits.over down.0.keeps up.0.keeps in
    let ranges : is.range ≡ result = same_words is.range result down.1 up.1 in
    record {
      one = i.one;
      path = path;
      path_is = i.at;
      named = subst (λ n. slice_get (map name_of (procs_of q.program)) n ≡ Some row.proc) (sym same) is.named;
      input = i.input_is;
      reached = is.reached;
      keeps = is.keeps ∙ keeps;
      range = result;
      range_is = i.result_is;
      result = subst (λ (c : Cond). IsReachOf c row.result) ranges is.result;
      sites = subst (λ n. AreSitesOf q.program n row.unproved) (sym same) is.sites;
      listed = λ site. (
        λ listed. (let h = (is.listed site).0 listed in
            let l = h.2 in (
              h.0,
              subst (λ n. IsSiteOf q.program n h.0 site) (sym same) h.1,
              listed_beside q paths l.0 l.1 h.0 site.index k j other path row.input row.input is.range result solved o i (sym same) (below_same row.input) l.3 l.2,
            )),
        λ h. (let l = h.2 in
            (is.listed site).1 (
              h.0,
              subst (λ n. IsSiteOf q.program n h.0 site) same h.1,
              listed_beside q paths l.0 l.1 h.0 site.index j k path other row.input row.input result is.range solved i o same (below_same row.input) l.3 l.2,
            )),
      );
    }
