-- Two least tables of one entry, box and assumption are equal.
use Rattle.std.proofs.Common.{◌≡◌, inl, inr, ℕ, zero, suc, ◌+◌, ℤ, Option, Some, None, List, [], ◌∷◌, ◌++◌, length, slice_get, refl, sym, ap, subst, arith, ◌∙◌}
use Rattle.std.specs.List.{Contains}
use Rattle.std.proofs.lemmas.List.Elements.{Contains-append_left}
use Rattle.vmv_tree.specs.declared.ends.NameEnds.{NameEnds}
use Rattle.vmv_tree.specs.Tree.{Item}
use Rattle.vmv_cond.specs.declared.cond.Cond.{Cond}
use Rattle.vmv_cond.specs.Cond.{IsSubset}
use Rattle.vmv_snapshot.specs.declared.code.Code.{Code}
use Rattle.vmv_snapshot.specs.declared.code.ProcId.{ProcId}
use Rattle.vmv_snapshot.specs.View.{code_of}
use Rattle.vmv_snapshot.specs.Procs.{params_of}
use Rattle.vmv_snapshot.specs.Resolution.{Resolution, IsResolution, tree_of}
use Rattle.vmv_zone.specs.declared.zone.Zone.{Zone}
use Rattle.vmv_zone.specs.Zone.{vars_of, IsBelow, IsNormal, IsNormOf}
use Rattle.vmv_zone.proofs.Equal.{below_both}
use Rattle.vmv_zone.proofs.States.{below_trans}
use Rattle.vmv_assumption.specs.Assumed.{Assumed}
use Rattle.vmv_states_exist.proofs.Greatest.{norm_exists}
use Rattle.vmv_step.specs.Enter.{declared_count}
use Rattle.vmv_step.proofs.EnterPoints.{enter_mono, enter_normal}
use Rattle.vmv_step.proofs.Procedures.{has_room}
use Rattle.vmv_cert.specs.declared.row.Row.{Row}
use Rattle.vmv_cert.specs.declared.row.Reach.{Reach}
use Rattle.vmv_cert.specs.declared.row.Reach.TheVariants.{Bottom, Value}
use Rattle.vmv_cert.specs.Walk.{Walk, Returns, IsMatch, IsReturned}
use Rattle.vmv_cert.specs.Tables.{IsFormed, Accepted, HasThresholds, Box}
use Rattle.vmv_check.specs.Walker.{HasParams}
use Rattle.vmv_check.proofs.Lists.{some_same, within, item_at, new_in}
use Rattle.vmv_check.proofs.Codes.{code_ready}
use Rattle.vmv_pass.specs.Callees.{block_callees}
use Rattle.vmv_pass.specs.Source.{by_row}
use Rattle.vmv_pass.specs.Holds.{HoldsRow}
use Rattle.vmv_forward.specs.Least.{IsReachBelow, IsNormBelow, IsLeastRow, IsRowFor, Visit, VisitsCalls, Visits, IsLeastTable}
use Rattle.vmv_forward.proofs.Items.{are_whole}
use Rattle.vmv_forward.proofs.Fair.{code_fair}
use Rattle.vmv_forward.proofs.States.{below_same, normal_floored}
use Rattle.vmv_forward.proofs.Instances.{normal_norm, proc_once}
use Rattle.vmv_forward.proofs.Compare.{IsMetCall, IsBelowMet, Setting, held_run, block_lower}
use Rattle.vmv_forward.proofs.Leastness.{holding}
use Rattle.vmv_forward.proofs.Stable.{returns_stably}
use Rattle.vmv_forward.proofs.Alike.{no_more_both}
use Rattle.vmv_forward.proofs.FirstRows.{boxed_once, Extends, calls_extend, visits_extend}

abbrev walk_at : Resolution → Assumed → List Row → Row → Walk
walk_at program assumed rows row = record { program = program; assumed = assumed; rows = rows; row = row }

-- an accepted table of least rows
pub record IsSide (program : Resolution) (number : ℕ) (ends : List NameEnds) (assumed : Assumed) (rows : List Row) : Type 0 where
  pub accepted : Accepted program assumed rows
  pub thresholds : HasThresholds program number ends rows
  pub least : (row : Row) → Contains rows row → IsLeastRow program number ends assumed row

-- a row of the procedure of this number, with this input
abbrev pub HasRow : Resolution → List Row → ℕ → Zone → Type 0
HasRow program rows n input = (row : Row) × Contains rows row × IsRowFor program n input row

-- a visit leaves a row
visits_stand : (depth : ℕ) (program : Resolution) (assumed : Assumed) (rows : List Row) (n : ℕ) (input : Zone) (seen out : List Row) → Visits depth program assumed rows n input seen out → HasRow program out n input
visits_stand zero program assumed rows n input seen out h = absurd h
visits_stand (suc depth) program assumed rows n input seen out (inl ((row, c, is), same)) = (row, subst (λ (xs : List Row). Contains xs row) (sym same) c, is)
visits_stand (suc depth) program assumed rows n input seen out (inr (none, (row, item, code, end, calls, is, proc, holds, v))) =
    let a = calls_extend (Visits depth program assumed rows) (block_callees (code_of code).block) calls (seen ++ row ∷ []) out (visits_extend depth program assumed rows) v in
    (row, subst (λ (xs : List Row). Contains xs row) (sym a.1) (Contains-append_left (seen ++ row ∷ []) a.0 row (new_in seen row)), is)

-- what is there stays
stays_in : (V : Visit) (callees : List ProcId) (calls : List (Option Zone)) (seen out : List Row) → Extends V → VisitsCalls V callees calls seen out → (row : Row) → Contains seen row → Contains out row
stays_in V callees calls seen out extends h row c =
    let a = calls_extend V callees calls seen out extends h in
    subst (λ (xs : List Row). Contains xs row) (sym a.1) (Contains-append_left seen a.0 row c)

abbrev Stands : Resolution → Visit → Type 0
Stands program V = (n : ℕ) (input : Zone) (seen out : List Row) → V n input seen out → HasRow program out n input

-- and so does each call that is met
calls_stand : (program : Resolution) (V : Visit) (callees : List ProcId) (calls : List (Option Zone)) (seen out : List Row) → Extends V → Stands program V → VisitsCalls V callees calls seen out → (c : ℕ) (callee : ProcId) (args : Zone) →
    slice_get callees c ≡ Some callee → slice_get calls c ≡ Some (Some args) → HasRow program out callee.0 args
calls_stand program V [] calls seen out extends stands h c callee args a b = absurd (cc)
calls_stand program V (first ∷ callees) [] seen out extends stands h c callee args a b = absurd h
calls_stand program V (first ∷ callees) (None ∷ calls) seen out extends stands h zero callee args a b = absurd (cc)
calls_stand program V (first ∷ callees) (None ∷ calls) seen out extends stands h (suc c) callee args a b = calls_stand program V callees calls seen out extends stands h c callee args a b
calls_stand program V (first ∷ callees) (Some met ∷ calls) seen out extends stands (mid, v, h) zero callee args a b =
    let r = stands first.0 met seen mid v in
    let proc : first ≡ callee = some_same a in
    let same : met ≡ args = some_same (some_same b) in
    (r.0, stays_in V callees calls mid out extends h r.0 r.1, subst (λ (p : ProcId). IsRowFor program p.0 args r.0) proc (subst (λ (z : Zone). IsRowFor program first.0 z r.0) same r.2))
calls_stand program V (first ∷ callees) (Some met ∷ calls) seen out extends stands (mid, v, h) (suc c) callee args a b = calls_stand program V callees calls mid out extends stands h c callee args a b

returns_on : (low high : Reach) (word : ℤ) → IsReachBelow low high → Returns low word → Returns high word
returns_on Bottom high word below returned = absurd returned
returns_on (Value c) Bottom word below returned = absurd below
returns_on (Value c) (Value d) word below returned = below word returned

-- the word of a call in the one table is one of that in the other, whose arguments are above
words_fewer : (program : Resolution) (number : ℕ) (ends : List NameEnds) (assumed : Assumed) (T U : List Row) (row : Row) (whole : List ProcId) (calls' : List (Option Zone)) → IsSide program number ends assumed T → IsSide program number ends assumed U →
    (c : ℕ) (callee : ProcId) (args : Zone) (cond : Cond) → slice_get whole c ≡ Some callee → HasRow program T callee.0 args → IsReturned (walk_at program assumed T row) callee.0 args cond →
    (b : IsBelowMet program (IsMetCall (walk_at program assumed U row) whole calls') c callee.0 args) → IsSubset cond b.cond
words_fewer program number ends assumed T U row whole calls' one two c callee args cond at (r, among, for) returned b word held =
    let proc : b.is.callee ≡ callee = some_same (sym b.is.callee_is ∙ at) in
    let returned' = subst (λ (p : ProcId). IsReturned (walk_at program assumed U row) p.0 b.upper b.cond) proc b.is.returned in
    let norm : IsNormOf r.input args = subst (λ (z : Zone). IsNormOf z args) (sym for.input_is) (normal_norm args b.normal) in
    let m : IsMatch (walk_at program assumed T row) callee.0 args r = record {
      one = among;
      named = for.named;
      over = subst (λ (z : Zone). HasParams program callee.0 (vars_of z)) (sym for.input_is) b.over;
      above = subst (λ (z : Zone). IsBelow args z) (sym for.input_is) (below_same args);
    } in
    let said : Returns r.result word = (returned word).0 held r m in
    (returned' word).1
    (λ x n.
    (let same : args.vars ≡ x.input.vars = some_same (sym b.over ∙ n.over) in
    let under : IsBelow args x.input = below_trans args b.upper x.input (b.vars ∙ same) b.below n.above in
    returns_stably x.result word (λ none. norm_exists x.input (λ m.
    let below : IsNormBelow r.input x.input = record { under = args; under_norm = norm; over = m.0; over_norm = m.1; below = m.1.greatest args same b.normal under } in
    let less = one.least r among U x two.accepted two.thresholds n.one (some_same (sym n.named ∙ for.named)) below in
    none (returns_on r.result x.result word less.result said)))))

-- the calls of a row's walk in the one table are below those in the other
calls_lower : (program : Resolution) (number : ℕ) (ends : List NameEnds) (assumed : Assumed) (T U : List Row) (row : Row) (n : ℕ) (item : Item) (code : Code) (end end' : Zone) (calls calls' : List (Option Zone)) → IsResolution program →
    IsSide program number ends assumed T → IsSide program number ends assumed U → IsFormed program row n item code → HoldsRow (by_row (walk_at program assumed T row)) item code end calls → HoldsRow (by_row (walk_at program assumed U row)) item code end' calls' →
    ((c : ℕ) (callee : ProcId) (args : Zone) → slice_get (block_callees (code_of code).block) c ≡ Some callee → slice_get calls c ≡ Some (Some args) → HasRow program T callee.0 args) → (c : ℕ) (callee : ProcId) (args : Zone) →
    slice_get (block_callees (code_of code).block) c ≡ Some callee → slice_get calls c ≡ Some (Some args) → IsBelowMet program (IsMetCall (walk_at program assumed U row) (block_callees (code_of code).block) calls') c callee.0 args
calls_lower program number ends assumed T U row n item code end end' calls calls' is one two formed h g has c callee args at met =
    let w : Walk = walk_at program assumed T row in
    let u : Walk = walk_at program assumed U row in
    let whole = block_callees (code_of code).block in
    let coded = is.resolves n code formed.code_is in
    let ready = code_ready program n code item is coded formed.place in
    let fair = code_fair program n code is formed.code_is in
    let room = has_room (tree_of program) n (code_of code) item is.valid coded formed.place in
    let fits = room.room in
    let lower : IsBelow h.start g.start =
    enter_mono (length (params_of item)) (declared_count item) code.vars row.input row.input h.start g.start formed.input formed.input (omega (arith, fits)) h.entered g.entered (below_same row.input) in
    let normal = (enter_normal (length (params_of item)) (declared_count item) code.vars row.input h.start h.entered).0 in
    let set : Setting w calls code.vars whole assumed row.keeps (IsMetCall u whole calls') = record {
      assumed = λ name word held. held;
      keeps_are = refl;
      over = formed.over;
      fewer = λ d helper x cond there met' returned b. words_fewer program number ends assumed T U row whole calls' one two d helper x cond there (has d helper x there met') returned b;
    } in
    let l = block_lower w calls code.vars whole assumed row.keeps (IsMetCall u whole calls') 0 0 (code_of code).block g.start h.start end' end set g.entered.vars h.entered.vars lower (normal_floored h.start normal) ready.block fair (are_whole whole)
    (held_run u whole calls' 0 0 (code_of code).block g.start end' (are_whole whole) g.holds) h.holds in
    let e : c ≡ 0 + c = omega arith in
    subst (λ i. IsBelowMet program (IsMetCall u whole calls') i callee.0 args) (sym e) (l.calls_below c callee args at (subst (λ i. slice_get calls i ≡ Some (Some args)) e met))

-- lists of one length with the same element at each place are equal
same_list : {X : Type 0} (xs ys : List X) → length xs ≡ length ys → ((c : ℕ) (x y : X) → slice_get xs c ≡ Some x → slice_get ys c ≡ Some y → x ≡ y) → xs ≡ ys
same_list [] [] e at = refl
same_list [] (y ∷ ys) e at = absurd (omega arith)
same_list (x ∷ xs) [] e at = absurd (omega arith)
same_list {X = X} (x ∷ xs) (y ∷ ys) e at = ap (λ (v : X). v ∷ xs) (at 0 x y refl refl) ∙ ap (λ (vs : List X). y ∷ vs) (same_list xs ys (omega arith) (λ c. at (suc c)))

told_none : (args : Zone) → Some None ≡ Some (Some args) → ⊥
told_none args e = absurd (cc)

told_some : (a b : Zone) → Some (Some a) ≡ Some (Some b) → a ≡ b
told_some a b e = cc

-- calls that are below one another are the same
same_call : (program : Resolution) (w u : Walk) (whole : List ProcId) (calls calls' : List (Option Zone)) (c : ℕ) (callee : ProcId) (o o' : Option Zone) → slice_get calls c ≡ Some o → slice_get calls' c ≡ Some o' →
    ((args : Zone) → slice_get calls c ≡ Some (Some args) → IsBelowMet program (IsMetCall u whole calls') c callee.0 args) → ((args : Zone) → slice_get calls' c ≡ Some (Some args) → IsBelowMet program (IsMetCall w whole calls) c callee.0 args) → o ≡ o'
same_call program w u whole calls calls' c callee None None a b down up = refl
same_call program w u whole calls calls' c callee None (Some args) a b down up = let x = up args b in absurd (told_none x.upper (sym a ∙ x.is.met))
same_call program w u whole calls calls' c callee (Some args) None a b down up = let x = down args a in absurd (told_none x.upper (sym b ∙ x.is.met))
same_call program w u whole calls calls' c callee (Some one) (Some two) a b down up =
    let x = down one a in
    let y = up two b in
    let e : x.upper ≡ two = told_some x.upper two (sym x.is.met ∙ b) in
    let f : y.upper ≡ one = told_some y.upper one (sym y.is.met ∙ a) in
    let vars : one.vars ≡ two.vars = sym x.vars ∙ ap (λ (z : Zone). z.vars) e in
    ap (λ (z : Zone). Some z) (below_both one two vars (subst (λ (z : Zone). IsBelow one z) e x.below) (subst (λ (z : Zone). IsBelow two z) f y.below))

-- what both sides' visits of one procedure and input leave is the same
abbrev SameVisits : Visit → Visit → List Row → List Row → Type 0
SameVisits V W T U = (n : ℕ) (input : Zone) (seen out out' : List Row) → IsNormal input → V n input seen out → W n input seen out' → ((row : Row) → Contains out row → Contains T row) → ((row : Row) → Contains out' row → Contains U row) → out ≡ out'

same_calls : (V W : Visit) (T U : List Row) (callees : List ProcId) (calls : List (Option Zone)) (seen out out' : List Row) → Extends V → Extends W → SameVisits V W T U → ((c : ℕ) (args : Zone) → slice_get calls c ≡ Some (Some args) → IsNormal args) →
    VisitsCalls V callees calls seen out → VisitsCalls W callees calls seen out' → ((row : Row) → Contains out row → Contains T row) → ((row : Row) → Contains out' row → Contains U row) → out ≡ out'
same_calls V W T U [] [] seen out out' more more' same normal h g sub sub' = h ∙ sym g
same_calls V W T U [] (o ∷ calls) seen out out' more more' same normal h g sub sub' = absurd h
same_calls V W T U (callee ∷ callees) [] seen out out' more more' same normal h g sub sub' = absurd h
same_calls V W T U (callee ∷ callees) (None ∷ calls) seen out out' more more' same normal h g sub sub' = same_calls V W T U callees calls seen out out' more more' same (λ c. normal (suc c)) h g sub sub'
same_calls V W T U (callee ∷ callees) (Some args ∷ calls) seen out out' more more' same normal (mid, v, h) (mid', v', g) sub sub' =
    let e : mid ≡ mid' = same callee.0 args seen mid mid' (normal 0 args refl) v v' (λ row c. sub row (stays_in V callees calls mid out more h row c)) (λ row c. sub' row (stays_in W callees calls mid' out' more' g row c)) in
    same_calls V W T U callees calls mid' out out' more more' same (λ c. normal (suc c)) (subst (λ (xs : List Row). VisitsCalls V callees calls xs out) e h) g sub sub'

-- the rows of both sides for one procedure and input are equal
same_rows : (program : Resolution) (number : ℕ) (ends : List NameEnds) (assumed : Assumed) (T U : List Row) (a b : Row) (n : ℕ) (input : Zone) (item : Item) (code : Code) → IsResolution program → IsSide program number ends assumed T →
    IsSide program number ends assumed U → IsNormal input → IsFormed program a n item code → IsFormed program b n item code → Contains T a → Contains U b → IsRowFor program n input a → IsRowFor program n input b → a ≡ b
same_rows program number ends assumed T U a b n input item code is one two normal f g among among' for for' =
    let norm : IsNormOf a.input input = subst (λ (z : Zone). IsNormOf z input) (sym for.input_is) (normal_norm input normal) in
    let norm' : IsNormOf b.input input = subst (λ (z : Zone). IsNormOf z input) (sym for'.input_is) (normal_norm input normal) in
    let name : a.proc ≡ b.proc = some_same (sym for.named ∙ for'.named) in
    let down : IsNormBelow a.input b.input = record { under = input; under_norm = norm; over = input; over_norm = norm'; below = below_same input } in
    let up : IsNormBelow b.input a.input = record { under = input; under_norm = norm'; over = input; over_norm = norm; below = below_same input } in
    no_more_both program n item code a b is f g (for.input_is ∙ sym for'.input_is) (one.least a among U b two.accepted two.thresholds among' (sym name) down) (two.least b among' T a one.accepted one.thresholds among name up)

-- of a row that both sides visit, the calls are the same
same_walk : (program : Resolution) (number : ℕ) (ends : List NameEnds) (assumed : Assumed) (T U : List Row) (row : Row) (n : ℕ) (item : Item) (code : Code) (end end' : Zone) (calls calls' : List (Option Zone)) → IsResolution program →
    IsSide program number ends assumed T → IsSide program number ends assumed U → IsFormed program row n item code → HoldsRow (by_row (walk_at program assumed T row)) item code end calls → HoldsRow (by_row (walk_at program assumed U row)) item code end' calls' →
    ((c : ℕ) (callee : ProcId) (args : Zone) → slice_get (block_callees (code_of code).block) c ≡ Some callee → slice_get calls c ≡ Some (Some args) → HasRow program T callee.0 args) →
    ((c : ℕ) (callee : ProcId) (args : Zone) → slice_get (block_callees (code_of code).block) c ≡ Some callee → slice_get calls' c ≡ Some (Some args) → HasRow program U callee.0 args) →
    (calls ≡ calls') × ((c : ℕ) (args : Zone) → slice_get calls c ≡ Some (Some args) → IsNormal args)
same_walk program number ends assumed T U row n item code end end' calls calls' is one two formed h g has has' =
    let whole = block_callees (code_of code).block in
    let down = calls_lower program number ends assumed T U row n item code end end' calls calls' is one two formed h g has in
    let up = calls_lower program number ends assumed U T row n item code end' end calls' calls is two one formed g h has' in
    let long : length calls ≡ length whole = h.count in
    let long' : length calls' ≡ length whole = g.count in (
      same_list calls calls' (long ∙ sym long')
          (λ c o o' a b.
          (let inside = within calls c o a in
          let x = item_at whole c (omega arith) in
          same_call program (walk_at program assumed T row) (walk_at program assumed U row) whole calls calls' c x.0 o o' a b (λ args met. down c x.0 args x.1 met) (λ args met. up c x.0 args x.1 met))),
      λ c args met. (let inside = within calls c (Some args) met in let x = item_at whole c (omega arith) in (down c x.0 args x.1 met).normal),
    )

same_visits : (program : Resolution) (number : ℕ) (ends : List NameEnds) (assumed : Assumed) (T U : List Row) → IsResolution program → IsSide program number ends assumed T → IsSide program number ends assumed U → (depth depth' : ℕ) →
    SameVisits (Visits depth program assumed T) (Visits depth' program assumed U) T U
same_visits program number ends assumed T U is one two zero depth' n input seen out out' normal h g sub sub' = absurd h
same_visits program number ends assumed T U is one two (suc depth) zero n input seen out out' normal h g sub sub' = absurd g
same_visits program number ends assumed T U is one two (suc depth) (suc depth') n input seen out out' normal (inl h) (inl g) sub sub' = h.1 ∙ sym g.1
same_visits program number ends assumed T U is one two (suc depth) (suc depth') n input seen out out' normal (inl h) (inr g) sub sub' = absurd (g.0 h.0.0 h.0.1 h.0.2)
same_visits program number ends assumed T U is one two (suc depth) (suc depth') n input seen out out' normal (inr h) (inl g) sub sub' = absurd (h.0 g.0.0 g.0.1 g.0.2)
same_visits program number ends assumed T U is one two (suc depth) (suc depth') n input seen out out' normal (inr (none, (a, item, code, end, calls, for, proc, holds, v))) (inr (none', (b, item', code', end', calls', for', proc', holds', v'))) sub sub' =
    let V : Visit = Visits depth program assumed T in
    let W : Visit = Visits depth' program assumed U in
    let more : Extends V = visits_extend depth program assumed T in
    let more' : Extends W = visits_extend depth' program assumed U in
    let among : Contains T a = sub a (stays_in V (block_callees (code_of code).block) calls (seen ++ a ∷ []) out more v a (new_in seen a)) in
    let among' : Contains U b = sub' b (stays_in W (block_callees (code_of code').block) calls' (seen ++ b ∷ []) out' more' v' b (new_in seen b)) in
    let x = holding program assumed T n a is one.accepted among for.named in
    let y = holding program assumed U n b is two.accepted among' for'.named in
    let e = proc_once program n item x.item code x.code proc (record { place = x.formed.place; code_is = x.formed.code_is }) in
    let f = proc_once program n item y.item code y.code proc (record { place = y.formed.place; code_is = y.formed.code_is }) in
    let formed : IsFormed program a n item code = subst (λ (i : Item). IsFormed program a n i code) (sym e.0) (subst (λ (d : Code). IsFormed program a n x.item d) (sym e.1) x.formed) in
    let formed' : IsFormed program b n item code = subst (λ (i : Item). IsFormed program b n i code) (sym f.0) (subst (λ (d : Code). IsFormed program b n y.item d) (sym f.1) y.formed) in
    let same : a ≡ b = same_rows program number ends assumed T U a b n input item code is one two normal formed formed' among among' for for' in
    let k = proc_once program n item' item code' code proc' proc in
    let onto : HoldsRow (by_row (walk_at program assumed U a)) item code end' calls' =
    subst (λ (r : Row). HoldsRow (by_row (walk_at program assumed U r)) item code end' calls') (sym same) (subst (λ (i : Item). HoldsRow (by_row (walk_at program assumed U b)) i code end' calls') k.0 (subst (λ (d : Code). HoldsRow (by_row (walk_at program assumed U b)) item' d end' calls') k.1 holds')) in
    let w' = subst (λ (r : Row). VisitsCalls W (block_callees (code_of code).block) calls' (seen ++ r ∷ []) out') (sym same) (subst (λ (d : Code). VisitsCalls W (block_callees (code_of d).block) calls' (seen ++ b ∷ []) out') k.1 v') in
    let r = same_walk program number ends assumed T U a n item code end end' calls calls' is one two formed holds onto
    (λ c callee args at met. (let s = calls_stand program V (block_callees (code_of code).block) calls (seen ++ a ∷ []) out more (visits_stand depth program assumed T) v c callee args at met in (s.0, sub s.0 s.1, s.2)))
    (λ c callee args at met. (let s = calls_stand program W (block_callees (code_of code).block) calls' (seen ++ a ∷ []) out' more' (visits_stand depth' program assumed U) w' c callee args at met in (s.0, sub' s.0 s.1, s.2))) in
    let v'' = subst (λ (os : List (Option Zone)). VisitsCalls W (block_callees (code_of code).block) os (seen ++ a ∷ []) out') (sym r.0) w' in
    same_calls V W T U (block_callees (code_of code).block) calls (seen ++ a ∷ []) out out' more more' (same_visits program number ends assumed T U is one two depth depth') r.1 v v'' sub sub'

pub are_unique : (program : Resolution) (number : ℕ) (box : Box) (ends : List NameEnds) (assumed : Assumed) (rows other : List Row) → IsResolution program →
    IsLeastTable program number box ends assumed rows → IsLeastTable program number box ends assumed other → rows ≡ other
are_unique program number box ends assumed rows other is least least' =
    let same : least'.input ≡ least.input = boxed_once box least'.boxed least.boxed least'.input least.input least'.box_is least.box_is least'.norm least.norm in
    let moved = subst (λ (z : Zone). Visits least'.depth program assumed other number z [] other) same least'.visits in
    same_visits program number ends assumed rows other is (record { accepted = least.accepted; thresholds = least.thresholds; least = least.least }) (record { accepted = least'.accepted; thresholds = least'.thresholds; least = least'.least }) least.depth least'.depth number least.input [] rows other
    least.norm.normal least.visits moved (λ row c. c) (λ row c. c)
