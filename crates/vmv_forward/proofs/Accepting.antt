-- The rows of settled instances walk: a call of an instance is answered by the rows as it is by what is stored.
use Rattle.vmv_zone.proofs.Equal.{norm_once}
use Rattle.vmv_cert.specs.Walk.{IsMatch}
use Rattle.vmv_cert.specs.Tables.{Accepted}
use Rattle.std.proofs.Common.{◌≡◌, inl, inr, ℕ, ◌-◌, ◌≤◌, ℤ, true, Some, List, [], ◌∷◌, length, map, slice_get, refl, sym, ap, subst, arith, ◌∙◌}
use Rattle.std.specs.List.{All, Contains}
use Rattle.vmv_tree.specs.declared.site.NamedSite.{NamedSite}
use Rattle.vmv_tree.specs.Run.{name_of}
use Rattle.vmv_tree.specs.Tree.{Item}
use Rattle.vmv_cond.specs.declared.cond.Cond.{Cond}
use Rattle.vmv_cond.specs.Cond.{Holds as HoldsWord}
use Rattle.vmv_snapshot.specs.declared.code.Code.{Code}
use Rattle.vmv_snapshot.specs.declared.code.ProcId.{ProcId}
use Rattle.vmv_snapshot.specs.View.{code_of}
use Rattle.vmv_snapshot.specs.Reaches.{Reaches}
use Rattle.vmv_snapshot.specs.Resolution.{Resolution, IsResolution, procs_of, tree_of}
use Rattle.vmv_snapshot.proofs.Links.{map_at}
use Rattle.vmv_zone.specs.declared.zone.Zone.{Zone}
use Rattle.vmv_zone.specs.Zone.{vars_of, NotBottom, IsBelow, IsNormOf}
use Rattle.vmv_cert.specs.declared.row.Row.{Row}
use Rattle.vmv_cert.specs.declared.row.Reach.{Reach}
use Rattle.vmv_cert.specs.Walk.{Returns}
use Rattle.vmv_cert.specs.Tables.{IsSiteOf, IsFormed, IsAbove}
use Rattle.vmv_check.specs.Walker.{HasParams}
use Rattle.vmv_check.proofs.Lists.{some_same, within}
use Rattle.vmv_check.proofs.Above.{procs_once}
use Rattle.vmv_pass.specs.Callees.{block_callees}
use Rattle.vmv_forward.specs.Path.{Path}
use Rattle.vmv_forward.specs.Rounds.{Quest, HasInput, HasResult, stored_of, walk_of}
use Rattle.vmv_forward.specs.Rows.{IsReachOf, IsRowOf}
use Rattle.vmv_forward.proofs.Reaching.{reaches_on}
use Rattle.vmv_forward.proofs.Instances.{AreSolved, Known, known_as, input_once, result_once, CallOf, call_of, result_of, input_of, normal_norm}
use Rattle.vmv_pass.specs.Source.{by_row, by_stored, Answers}
use Rattle.vmv_pass.specs.Holds.{HoldsRow}
use Rattle.vmv_pass.proofs.Telling.{Retells, row_retold}
use Rattle.vmv_pass.proofs.Calls.{row_goes}
use Rattle.vmv_pass.proofs.Bodies.{facts_of}
use Rattle.vmv_forward.proofs.Low.{params_item}
use Rattle.vmv_forward.proofs.Leastness.{IsAt}
use Rattle.vmv_forward.proofs.Beside.{Own, own_walk, own_args, beside}

-- the row is that of an instance, and each instance that it calls has a row, too
pub record IsTraced (program : Resolution) (paths : List Path) (rows : List Row) (row : Row) : Type 0 where
  pub j : ℕ
  pub is : IsRowOf program paths j row
  pub calls : (c next : ℕ) (input : Zone) → slice_get is.path.callees c ≡ Some next → slice_get is.path.inputs c ≡ Some input → NotBottom input → (callee : Row) × Contains rows callee × IsRowOf program paths next callee

abbrev pub AreTraced : Resolution → List Path → List Row → Type 0
AreTraced program paths rows = (row : Row) → Contains rows row → IsTraced program paths rows row

-- a procedure has one number
number_once : (program : Resolution) (n m : ℕ) (row : Row) → IsResolution program → slice_get (map name_of (procs_of program)) n ≡ Some row.proc → slice_get (map name_of (procs_of program)) m ≡ Some row.proc → n ≡ m
number_once program n m row is a b = procs_once (tree_of program) is.valid n m row.proc a b

-- the name at a number is the item's
named_item : (program : Resolution) (n : ℕ) (item : Item) (row : Row) → slice_get (procs_of program) n ≡ Some item → slice_get (map name_of (procs_of program)) n ≡ Some row.proc → name_of item ≡ row.proc
named_item program n item row at named =
    let m = map_at name_of (procs_of program) n row.proc named in
    let same : item ≡ m.0 = some_same (sym at ∙ m.1) in
    ap name_of same ∙ m.2

-- the row of an instance is formed
pub row_formed : (q : Quest) (paths : List Path) (j : ℕ) (row : Row) (is : IsRowOf q.program paths j row) (item : Item) (code : Code) → AreSolved q paths → Known q paths j is.path item code → IsFormed q.program row is.path.proc.0 item code
row_formed q paths j row is item code solved known =
    let input = input_of q paths j is.path row.input solved is.one is.path_is is.input in
    record {
      place = known.proc.place;
      code_is = known.proc.code_is;
      named = named_item q.program is.path.proc.0 item row known.proc.place is.named;
      input = params_item q.program is.path.proc.0 row.input.vars item known.proc.place input.over;
      keeps = ap (λ (ks : List Zone). length ks) is.keeps ∙ known.fits.keeps;
      over = subst (λ ks. All (λ z. vars_of z ≡ code.vars) ks) (sym is.keeps) known.fits.over;
      sites = is.sites;
    }

-- a flagged site is listed
flag_listed : (q : Quest) (paths : List Path) (j : ℕ) (row : Row) (is : IsRowOf q.program paths j row) (item : Item) (code : Code) → Known q paths j is.path item code → (n : ℕ) → 1 ≤ n → slice_get is.path.unproved (n - 1) ≡ Some true →
    Contains row.unproved (record { proc = row.proc; index = n })
flag_listed q paths j row is item code known n from flag =
    let inside = within is.path.unproved (n - 1) true flag in
    let count = known.fits.unproved in
    let site : NamedSite = record { proc = row.proc; index = n } in
    let there : IsSiteOf q.program is.path.proc.0 is.path.proc.0 site = record {
      item = item;
      place = known.proc.place;
      named = named_item q.program is.path.proc.0 item row known.proc.place is.named;
      from = from;
      to = omega arith;
      reached = ([], refl);
    } in
    (is.listed site).1 (is.path.proc.0, there, ([], j, refl, (is.path, is.path_is, refl, from, flag)))

-- a result holds the words that its condition holds
returns_held : (range : Cond) (reach : Reach) (word : ℤ) → IsReachOf range reach → Returns reach word → HoldsWord range word
returns_held range reach word (inl h) returned = absurd (subst (λ (r : Reach). Returns r word) h.1 returned)
returns_held range reach word (inr h) returned = subst (λ (r : Reach). Returns r word) h.1 returned

-- what the row of a called instance lists, the caller's row lists
sites_on : (q : Quest) (paths : List Path) (j c next : ℕ) (row : Row) (is : IsRowOf q.program paths j row) (item : Item) (code : Code) (input : Zone) (callee : Row) → AreSolved q paths → Known q paths j is.path item code →
    CallOf q paths j is.path code c next input → slice_get is.path.callees c ≡ Some next → slice_get is.path.inputs c ≡ Some input → NotBottom input → IsRowOf q.program paths next callee → (site : NamedSite) → Contains callee.unproved site →
    Contains row.unproved site
sites_on q paths j c next row is item code input callee solved known call to there up at site listed =
    let h = (at.listed site).0 listed in
    let s = h.1 in
    let same : at.path ≡ call.to = some_same (sym at.path_is ∙ call.to_is) in
    let proc : at.path.proc.0 ≡ call.callee.0 = ap (λ (p : Path). p.proc.0) same ∙ call.proc_is in
    let reached = reaches_on q.program is.path.proc.0 c h.0 code call.callee solved.kept.resolution known.proc.code_is call.callee_is (subst (λ n. Reaches (tree_of q.program) n h.0) proc s.reached) in
    let l = h.2 in
    (is.listed site).1 (h.0, record { item = s.item; place = s.place; named = s.named; from = s.from; to = s.to; reached = reached }, (c ∷ l.0, l.1, (is.path, next, input, is.path_is, to, there, up, l.2), l.3))

-- a result's words are those that its condition holds
held_returned : (range : Cond) (reach : Reach) (word : ℤ) → IsReachOf range reach → HoldsWord range word → Returns reach word
held_returned range reach word (inl h) held = absurd (h.0 word held)
held_returned range reach word (inr h) held = subst (λ (r : Reach). Returns r word) (sym h.1) held

-- what is above a range is above a narrower one
above_range : (range c : Cond) (reach : Reach) → IsReachOf range reach → c ≡ range → IsAbove reach c
above_range range c reach (inl h) same = subst (λ (r : Reach). IsAbove r c) (sym h.1) (λ word held. h.0 word (subst (λ (d : Cond). HoldsWord d word) same held))
above_range range c reach (inr h) same = subst (λ (r : Reach). IsAbove r c) (sym h.1) (λ word held. subst (λ (d : Cond). HoldsWord d word) same held)

-- the instance of a row
pub row_at : (program : Resolution) (paths : List Path) (j : ℕ) (row : Row) (is : IsRowOf program paths j row) → IsAt paths j is.path row.input is.range
row_at program paths j row is = record { one = is.one; at = is.path_is; input_is = is.input; result_is = is.range_is }

-- each row that matches the arguments of a call returns what is stored for the instance that is called
match_returns : (q : Quest) (paths : List Path) (rows : List Row) (row other : Row) (next : ℕ) (to : Path) (callee : ProcId) (args : Zone) (cond : Cond) (word : ℤ) → AreSolved q paths → AreTraced q.program paths rows → IsAt paths next to args cond →
    to.proc.0 ≡ callee.0 → IsMatch (walk_of q rows row) callee.0 args other → HoldsWord cond word → Returns other.result word
match_returns q paths rows row other next to callee args cond word solved traced at proc m held =
    let t = traced other m.one in
    let number : to.proc.0 ≡ t.is.path.proc.0 = proc ∙ number_once q.program callee.0 t.is.path.proc.0 other solved.kept.resolution m.named t.is.named in
    let i = row_at q.program paths t.j other t.is in
    let own = own_walk q paths t.j t.is.path other.input t.is.range solved i in
    let b = beside q paths next t.j to t.is.path args other.input cond t.is.range solved at i number m.above own in
    held_returned t.is.range other.result word t.is.result (b.1 word held)

-- the walk of a row, and of the instance that it is of
pub record IsWalked (q : Quest) (paths : List Path) (rows : List Row) (row : Row) (t : IsTraced q.program paths rows row) : Type 0 where
  pub own : Own q paths t.is.path row.input t.is.range
  pub known : Known q paths t.j t.is.path own.item own.code
  pub formed : IsFormed q.program row t.is.path.proc.0 own.item own.code
  pub holds : HoldsRow (by_row (walk_of q rows row)) own.item own.code own.end own.calls

-- an answer by what is stored is one by the rows
call_retold : (q : Quest) (paths : List Path) (rows : List Row) (row : Row) (t : IsTraced q.program paths rows row) (own : Own q paths t.is.path row.input t.is.range) → AreSolved q paths → AreTraced q.program paths rows →
    Known q paths t.j t.is.path own.item own.code → (c : ℕ) (callee : ProcId) (args : Zone) (cond : Cond) → slice_get (block_callees (code_of own.code).block) c ≡ Some callee → slice_get own.calls c ≡ Some (Some args) →
    Answers (by_stored row.input t.is.range (stored_of q.assumed t.is.path)) c callee args cond → Answers (by_row (walk_of q rows row)) c callee args cond
call_retold q paths rows row t own solved traced known c callee args cond called met (given, there, under, stored) =
    let path = t.is.path in
    let i = row_at q.program paths t.j row t.is in
    let m = own_args q paths t.j path row.input t.is.range solved i own c callee args given called met there in
    let k = known.each c callee called in
    let call = call_of q paths t.j path own.item own.code c k.number given t.is.path_is known k.number_is there in
    let a = t.calls c k.number given k.number_is there m.1 in
    let at = a.2 in
    let proc : call.callee ≡ callee = some_same (sym call.callee_is ∙ called) in
    let to : at.path ≡ call.to = some_same (sym at.path_is ∙ call.to_is) in
    let to_proc : call.to.proc.0 ≡ callee.0 = call.proc_is ∙ ap (λ (p : ProcId). p.0) proc in
    let number : at.path.proc.0 ≡ callee.0 = ap (λ (p : Path). p.proc.0) to ∙ to_proc in
    let same : a.0.input ≡ given = input_once paths call.to a.0.input given (subst (λ (p : Path). HasInput paths p a.0.input) to at.input) call.has in
    let has : HasResult paths call.to cond = result_of paths t.j c path call.to cond t.is.path_is call.caller_is call.place_is stored in
    let range : at.range ≡ cond = result_once paths call.to at.range cond (subst (λ (p : Path). HasResult paths p at.range) to at.range_is) has in
    let one : IsMatch (walk_of q rows row) callee.0 args a.0 = record {
      one = a.1;
      named = subst (λ n. slice_get (map name_of (procs_of q.program)) n ≡ Some a.0.proc) number at.named;
      over = subst (λ (z : Zone). HasParams q.program callee.0 (vars_of z)) (sym same) (subst (λ (p : ProcId). HasParams q.program p.0 (vars_of given)) proc call.over);
      above = subst (λ (z : Zone). IsBelow args z) (sym same) under;
    } in
    let child : IsAt paths k.number call.to args cond = record { one = call.one; at = call.to_is; input_is = subst (λ (z : Zone). HasInput paths call.to z) (sym m.0) call.has; result_is = has } in (
      (a.0, one),
      λ word. (
        λ held other n. match_returns q paths rows row other k.number call.to callee args cond word solved traced child to_proc n held,
        λ all. subst (λ (d : Cond). HoldsWord d word) range (returns_held at.range a.0.result word at.result (all a.0 one)),
      ),
      λ site all. sites_on q paths t.j c k.number row t.is own.item own.code given a.0 solved known call k.number_is there m.1 at site (all a.0 one),
    )

pub row_walks : (q : Quest) (paths : List Path) (rows : List Row) (row : Row) (t : IsTraced q.program paths rows row) → AreSolved q paths → AreTraced q.program paths rows → IsWalked q paths rows row t
row_walks q paths rows row t solved traced =
    let path = t.is.path in
    let own = own_walk q paths t.j path row.input t.is.range solved (row_at q.program paths t.j row t.is) in
    let known = known_as q paths t.j path own.item own.code solved.kept t.is.one t.is.path_is own.proc in
    let set : Retells (by_stored row.input t.is.range (stored_of q.assumed path)) (by_row (walk_of q rows row)) own.calls (block_callees (code_of own.code).block) = record {
      assumed = refl;
      keeps = sym t.is.keeps;
      sites = λ n flag from told up. flag_listed q paths t.j row t.is own.item own.code known n from (told ∙ ap (λ b. Some b) up);
      answers = call_retold q paths rows row t own solved traced known;
    } in
    record {
      own = own;
      known = known;
      formed = row_formed q paths t.j row t.is own.item own.code solved known;
      holds = row_retold (by_stored row.input t.is.range (stored_of q.assumed path)) (by_row (walk_of q rows row)) own.item own.code own.end own.calls set (facts_of q.program path.proc.0 own.item own.code solved.kept.resolution own.proc).known refl
          (λ range told. above_range t.is.range range row.result t.is.result told) own.holds;
    }

-- a table of such rows is accepted
pub traced_accepted : (q : Quest) (paths : List Path) (rows : List Row) → AreSolved q paths → AreTraced q.program paths rows → Accepted q.program q.assumed rows
traced_accepted q paths rows solved traced row among =
    let t = traced row among in
    let w = row_walks q paths rows row t solved traced in
    (w.own.end, inr (t.is.path.proc.0, w.own.item, w.own.code, w.formed, row_goes (walk_of q rows row) w.own.item w.own.code w.own.end w.own.calls w.holds))
