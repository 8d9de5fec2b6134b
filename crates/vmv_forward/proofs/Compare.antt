-- A row's walk that holds, against one from a state above: it meets calls with arguments below.
use Rattle.std.proofs.Common.{◌≡◌, ◌⊎◌, inl, inr, ⊎_elim, ℕ, zero, suc, ◌+◌, Option, Some, None, List, [], ◌∷◌, ◌++◌, length, slice_get, refl, sym, ap, subst, arith, ◌∙◌}
use Rattle.std.specs.List.{All}
use Rattle.vmv_cond.specs.declared.cond.Cond.{Cond}
use Rattle.vmv_cond.specs.Cond.{IsSubset}
use Rattle.vmv_snapshot.specs.declared.code.Slot.{Slot}
use Rattle.vmv_snapshot.specs.declared.code.Simple.{Simple}
use Rattle.vmv_snapshot.specs.Resolution.{Resolution}
use Rattle.vmv_snapshot.specs.declared.code.ProcId.{ProcId}
use Rattle.vmv_snapshot.specs.declared.code.CodeOperand.{CodeOperand}
use Rattle.vmv_snapshot.specs.Code.{Stmt, plain, help, branch, loop, Block, [], ◌⨾◌}
use Rattle.vmv_zone.specs.declared.zone.Zone.{Zone}
use Rattle.vmv_zone.specs.declared.operand.ZoneValue.TheVariants.{Within}
use Rattle.vmv_zone.specs.Zone.{vars_of, IsBottom, NotBottom, IsBelow, IsNormal, IsNormOf, IsJoin}
use Rattle.vmv_zone.specs.Args.{IsArgsOf}
use Rattle.vmv_zone.specs.Step.{IsAssigned}
use Rattle.vmv_zone.proofs.Equal.{clash, norm_once}
use Rattle.vmv_zone.proofs.MoreLaws.{join_mono, assign_normal}
use Rattle.vmv_zone.proofs.WordOrder.{word_mono}
use Rattle.vmv_assumption.specs.Assumed.{Assumed}
use Rattle.vmv_assumption.specs.Within.{IsBelow as IsLess}
use Rattle.vmv_step.specs.declared.stepped.Stepped.{Stepped}
use Rattle.vmv_step.specs.Zones.{zone_args, IsVariable, IsTestInside, AreInside}
use Rattle.vmv_step.specs.Steps.{IsSimpleInside, IsStepped, IsBranched}
use Rattle.vmv_step.specs.Loops.{IsTurn, IsLeft}
use Rattle.vmv_step.proofs.Arguments.{pass_mono, pass_normal}
use Rattle.vmv_step.proofs.StepOrder.{step_mono, step_normal, branch_mono, turn_mono, leave_mono}
use Rattle.vmv_cert.specs.Sizes.{loops, block_loops}
use Rattle.vmv_cert.specs.Walk.{Walk, IsReturned}
use Rattle.vmv_check.specs.Walker.{HasParams, IsReady, AreReady}
use Rattle.vmv_check.proofs.Lists.{some_same}
use Rattle.vmv_check.proofs.Walking.{assigned_vars}
use Rattle.vmv_pass.specs.Callees.{callees, block_callees}
use Rattle.vmv_pass.specs.Holds.{Holds, HoldsAll}
use Rattle.vmv_pass.specs.Source.{by_row}
use Rattle.vmv_forward.proofs.Items.{AreIn, are_first, are_second, are_one, all_at, either_part}
use Rattle.vmv_forward.proofs.Fair.{IsFair, AreFair}
use Rattle.vmv_forward.proofs.States.{IsFloored, below_same, normal_floored, norm_up, join_floored, left_normal}

-- The walk of a statement from z to e over kept states, where R tells of a call's place, its arguments and the word that it
-- returns.
abbrev mutual
  pub Runs : Assumed → List Zone → (ℕ → Zone → Cond → Type 0) → (k c : ℕ) → Stmt → Zone → Zone → Type 0
  Runs A keeps R k c (plain simple) z e = (s : Stepped) × IsStepped simple A z s × (e ≡ s.zone)
  Runs A keeps R k c (help to callee codes) z e =
      (IsBottom z × (e ≡ z)) ⊎ (NotBottom z × ((args : Zone) × (cond : Cond) × IsArgsOf z (zone_args codes) args × R c args cond × IsAssigned z to.0 (Within cond) e))
  Runs A keeps R k c (branch test first second) z e =
      (z1 z2 e1 e2 : Zone) × IsBranched test z z1 z2 × RunsAll A keeps R k c first z1 e1
      × RunsAll A keeps R (k + block_loops first) (c + length (block_callees first)) second z2 e2 × IsJoin e1 e2 e
  Runs A keeps R k c (loop index slot bound most site body) z e =
      (kept normed turned end : Zone) × (slice_get keeps k ≡ Some kept) × IsNormOf kept normed × IsTurn index slot normed turned
      × RunsAll A keeps R (k + 1) c body turned end × IsLeft index slot normed e

  pub RunsAll : Assumed → List Zone → (ℕ → Zone → Cond → Type 0) → (k c : ℕ) → Block → Zone → Zone → Type 0
  RunsAll A keeps R k c [] z e = e ≡ z
  RunsAll A keeps R k c (s ⨾ rest) z e = (m : Zone) × Runs A keeps R k c s z m × RunsAll A keeps R (k + loops s) (c + length (callees s)) rest m e

-- a call that a row's walk meets
pub record IsMetCall (w : Walk) (whole : List ProcId) (calls : List (Option Zone)) (c : ℕ) (args : Zone) (cond : Cond) : Type 0 where
  pub met : slice_get calls c ≡ Some (Some args)
  pub callee : ProcId
  pub callee_is : slice_get whole c ≡ Some callee
  pub returned : IsReturned w callee.0 args cond

mutual
  held_runs : (w : Walk) (whole : List ProcId) (calls : List (Option Zone)) (k c : ℕ) (s : Stmt) (z e : Zone) → AreIn whole c (callees s) → Holds (by_row w) calls k c s z e → Runs w.assumed w.row.keeps (IsMetCall w whole calls) k c s z e
  held_runs w whole calls k c (plain simple) z e are (s, x, allowed, end) = (s, x, end)
  held_runs w whole calls k c (help to callee codes) z e are (inl (bottom, none, end)) = inl (bottom, end)
  held_runs w whole calls k c (help to callee codes) z e are (inr (up, (args, cond, is, met, (match, returned, allowed), given))) =
      inr (up, (args, cond, is, record { met = met; callee = callee; callee_is = are_one whole c callee are; returned = returned }, given))
  held_runs w whole calls k c (branch test first second) z e are (z1, z2, e1, e2, x, h1, h2, j) = (
    z1,
    z2,
    e1,
    e2,
    x,
    held_run w whole calls k c first z1 e1 (are_first whole c (block_callees first) (block_callees second) are) h1,
    held_run w whole calls (k + block_loops first) (c + length (block_callees first)) second z2 e2 (are_second whole c (block_callees first) (block_callees second) are) h2,
    j,
  )
  held_runs w whole calls k c (loop index slot bound most site body) z e are (s, kept, normed, turned, end, again, x0, x1, x2, x3, x4, x5, x6, x7, x8, x9) =
      (kept, normed, turned, end, x1, x4, x5, held_run w whole calls (k + 1) c body turned end are x6, x9)

  pub held_run : (w : Walk) (whole : List ProcId) (calls : List (Option Zone)) (k c : ℕ) (b : Block) (z e : Zone) → AreIn whole c (block_callees b) → HoldsAll (by_row w) calls k c b z e → RunsAll w.assumed w.row.keeps (IsMetCall w whole calls) k c b z e
  held_run w whole calls k c [] z e are h = h
  held_run w whole calls k c (s ⨾ rest) z e are (m, h1, h2) = (
    m,
    held_runs w whole calls k c s z m (are_first whole c (callees s) (block_callees rest) are) h1,
    held_run w whole calls (k + loops s) (c + length (callees s)) rest m e (are_second whole c (callees s) (block_callees rest) are) h2,
  )

-- a call of the lower walk and one of the upper walk at its place, whose arguments are above
pub record IsBelowMet (program : Resolution) (R : ℕ → Zone → Cond → Type 0) (c callee : ℕ) (args : Zone) : Type 0 where
  pub up : NotBottom args
  pub normal : IsNormal args
  pub over : HasParams program callee (vars_of args)
  pub upper : Zone
  pub cond : Cond
  pub is : R c upper cond
  pub below : IsBelow args upper
  pub vars : upper.vars ≡ args.vars

-- The lower walk keeps the upper one's states, under conditions no wider, and the word of each of its calls is one of the
-- upper walk's call at that place.
pub record Setting (w : Walk) (calls : List (Option Zone)) (vars : ℕ) (whole : List ProcId) (A : Assumed) (keeps : List Zone) (R : ℕ → Zone → Cond → Type 0) : Type 0 where
  pub assumed : IsLess w.assumed A
  pub keeps_are : w.row.keeps ≡ keeps
  pub over : All (λ z. vars_of z ≡ vars) keeps
  pub fewer : (c : ℕ) (callee : ProcId) (args : Zone) (cond : Cond) → slice_get whole c ≡ Some callee → slice_get calls c ≡ Some (Some args) → IsReturned w callee.0 args cond → (b : IsBelowMet w.program R c callee.0 args) → IsSubset cond b.cond

-- the end of the lower walk, and its calls
pub record Lower (w : Walk) (calls : List (Option Zone)) (vars : ℕ) (R : ℕ → Zone → Cond → Type 0) (c : ℕ) (list : List ProcId) (e d : Zone) : Type 0 where
  pub below : IsBelow d e
  pub vars_are : e.vars ≡ vars
  pub end_vars : d.vars ≡ vars
  pub floored : IsFloored d
  pub calls_below : (i : ℕ) (callee : ProcId) (args : Zone) → slice_get list i ≡ Some callee → slice_get calls (c + i) ≡ Some (Some args) → IsBelowMet w.program R (c + i) callee.0 args

none_at : {X : Type 0} (i : ℕ) (x : X) → slice_get [] i ≡ Some x → ⊥
none_at i x e = absurd (cc)

told_none : (args : Zone) → Some None ≡ Some (Some args) → ⊥
told_none args e = absurd (cc)

told_some : (a b : Zone) → Some (Some a) ≡ Some (Some b) → a ≡ b
told_some a b e = cc

-- of two parts that follow one another
both_calls : (w : Walk) (calls : List (Option Zone)) (R : ℕ → Zone → Cond → Type 0) (c : ℕ) (xs ys : List ProcId) →
    ((i : ℕ) (callee : ProcId) (args : Zone) → slice_get xs i ≡ Some callee → slice_get calls (c + i) ≡ Some (Some args) → IsBelowMet w.program R (c + i) callee.0 args) →
    ((i : ℕ) (callee : ProcId) (args : Zone) → slice_get ys i ≡ Some callee → slice_get calls ((c + length xs) + i) ≡ Some (Some args) → IsBelowMet w.program R ((c + length xs) + i) callee.0 args) →
    (i : ℕ) (callee : ProcId) (args : Zone) → slice_get (xs ++ ys) i ≡ Some callee → slice_get calls (c + i) ≡ Some (Some args) → IsBelowMet w.program R (c + i) callee.0 args
both_calls w calls R c xs ys one two i callee args at met =
    ⊎_elim (λ (g : slice_get xs i ≡ Some callee). one i callee args g met)
    (λ (g : (d : ℕ) × (i ≡ length xs + d) × (slice_get ys d ≡ Some callee)).
    (let t : c + i ≡ (c + length xs) + g.0 = (let f = g.1 in omega arith) in
    subst (λ j. IsBelowMet w.program R j callee.0 args) (sym t) (two g.0 callee args g.2 (subst (λ j. slice_get calls j ≡ Some (Some args)) t met))))
    (either_part xs ys i callee at)

-- a list of one callee has no other, and its call isn't reached
only_none : (calls : List (Option Zone)) (c i : ℕ) (callee helper : ProcId) (args : Zone) → slice_get (callee ∷ []) i ≡ Some helper → slice_get calls c ≡ Some None → slice_get calls (c + i) ≡ Some (Some args) → ⊥
only_none calls c zero callee helper args at met has = told_none args (sym met ∙ subst (λ j. slice_get calls j ≡ Some (Some args)) (let t : c + 0 ≡ c = omega arith in t) has)
only_none calls c (suc i) callee helper args at met has = none_at i helper at

-- a list of one callee has no other, and its call has these arguments
only_some : (program : Resolution) (R : ℕ → Zone → Cond → Type 0) (calls : List (Option Zone)) (c i : ℕ) (callee helper : ProcId) (args x : Zone) → slice_get (callee ∷ []) i ≡ Some helper → slice_get calls c ≡ Some (Some args) →
    slice_get calls (c + i) ≡ Some (Some x) → IsBelowMet program R c callee.0 args → IsBelowMet program R (c + i) helper.0 x
only_some program R calls c zero callee helper args x at met has b =
    let t : c + 0 ≡ c = omega arith in
    let same : args ≡ x = told_some args x (sym met ∙ subst (λ j. slice_get calls j ≡ Some (Some x)) t has) in
    let proc : callee ≡ helper = some_same at in
    subst (λ j. IsBelowMet program R j helper.0 x) (sym t) (subst (λ (p : ProcId). IsBelowMet program R c p.0 x) proc (subst (λ (v : Zone). IsBelowMet program R c callee.0 v) same b))
only_some program R calls c (suc i) callee helper args x at met has b = absurd (none_at i helper at)

plain_lower : (w : Walk) (calls : List (Option Zone)) (vars : ℕ) (whole : List ProcId) (A : Assumed) (keeps : List Zone) (R : ℕ → Zone → Cond → Type 0) (c : ℕ) (simple : Simple) (z y e d : Zone) (s t : Stepped) →
    Setting w calls vars whole A keeps R → z.vars ≡ vars → y.vars ≡ vars → IsBelow y z → IsSimpleInside vars simple → IsFair (plain simple) → IsStepped simple A z s → IsStepped simple w.assumed y t → e ≡ s.zone → d ≡ t.zone →
    Lower w calls vars R c [] e d
plain_lower w calls vars whole A keeps R c simple z y e d s t set zv yv below inside fair x x' end end' =
    let inside_z : IsSimpleInside z.vars simple = subst (λ k. IsSimpleInside k simple) (sym zv) inside in
    let inside_y : IsSimpleInside y.vars simple = subst (λ k. IsSimpleInside k simple) (sym yv) inside in
    let m = step_mono simple w.assumed A y z t s (yv ∙ sym zv) inside_z fair.0 x' x set.assumed below in
    let r = step_normal simple w.assumed y t inside_y x' in
    record {
      below = subst (λ (v : Zone). IsBelow d v) (sym end) (subst (λ (v : Zone). IsBelow v s.zone) (sym end') m.0);
      vars_are = ap (λ (v : Zone). v.vars) end ∙ ((step_normal simple A z s inside_z x).1 ∙ zv);
      end_vars = ap (λ (v : Zone). v.vars) end' ∙ (r.1 ∙ yv);
      floored = normal_floored d (subst IsNormal (sym end') r.0);
      calls_below = λ i callee args at met. absurd (none_at i callee at);
    }

call_lower : (w : Walk) (calls : List (Option Zone)) (vars : ℕ) (whole : List ProcId) (A : Assumed) (keeps : List Zone) (R : ℕ → Zone → Cond → Type 0) (k c : ℕ) (to : Slot) (callee : ProcId) (codes : List CodeOperand) (z y e d : Zone) →
    Setting w calls vars whole A keeps R → z.vars ≡ vars → y.vars ≡ vars → IsBelow y z → IsFloored y → IsReady w.program vars (help to callee codes) → AreIn whole c (callee ∷ []) → Runs A keeps R k c (help to callee codes) z e →
    Holds (by_row w) calls k c (help to callee codes) y d → Lower w calls vars R c (callee ∷ []) e d
call_lower w calls vars whole A keeps R k c to callee codes z y e d set zv yv below floored ready are (inl (none, end)) (inl (none', met, end')) = record {
  below = subst (λ (v : Zone). IsBelow d v) (sym end) (subst (λ (v : Zone). IsBelow v z) (sym end') below);
  vars_are = ap (λ (v : Zone). v.vars) end ∙ zv;
  end_vars = ap (λ (v : Zone). v.vars) end' ∙ yv;
  floored = subst IsFloored (sym end') floored;
  calls_below = λ i helper args at has. absurd (only_none calls c i callee helper args at met has);
}
call_lower w calls vars whole A keeps R k c to callee codes z y e d set zv yv below floored ready are (inl (none, end)) (inr (up, rest)) = clash z.bottom none (below up).not_bottom
call_lower w calls vars whole A keeps R k c to callee codes z y e d set zv yv below floored ready are (inr (up, (args, cond, is, r, given))) (inl (none', met, end')) = record {
  below = λ some. clash y.bottom none' (subst (λ (v : Zone). NotBottom v) end' some);
  vars_are = assigned_vars z e to.0 (Within cond) given ∙ zv;
  end_vars = ap (λ (v : Zone). v.vars) end' ∙ yv;
  floored = subst IsFloored (sym end') floored;
  calls_below = λ i helper args at has. absurd (only_none calls c i callee helper args at met has);
}
call_lower w calls vars whole A keeps R k c to callee codes z y e d set zv yv below floored ready are (inr (up, (args, cond, is, r, given))) (inr (up', (args', cond', is', met, (match, returned, allowed), given'))) =
    let inside = subst (λ v. AreInside v codes) (sym zv) ready.3 in
    let inside' = subst (λ v. AreInside v codes) (sym yv) ready.3 in
    let lower = pass_mono codes y z args' args (yv ∙ sym zv) inside is' is below in
    let over : args.vars ≡ length codes = (pass_normal codes z args inside is).1 in
    let over' : args'.vars ≡ length codes = (pass_normal codes y args' inside' is').1 in
    let some : NotBottom args' = is'.bottom ∙ norm_up y is'.before floored is'.norm up' in
    let b : IsBelowMet w.program R c callee.0 args' = record { up = some; normal = (pass_normal codes y args' inside' is').0; over = subst (λ n. HasParams w.program callee.0 n) (sym over') ready.1; upper = args; cond = cond; is = r; below = lower; vars = over ∙ sym over' } in
    let sub : IsSubset cond' cond = set.fewer c callee args' cond' (are_one whole c callee are) met returned b in
    record {
      below = word_mono y z d e to.0 cond' cond (yv ∙ sym zv) ready.0.0 sub given' given below;
      vars_are = assigned_vars z e to.0 (Within cond) given ∙ zv;
      end_vars = assigned_vars y d to.0 (Within cond') given' ∙ yv;
      floored = normal_floored d (assign_normal y d to.0 (Within cond') ready.0.0 given');
      calls_below = λ i helper x at has. only_some w.program R calls c i callee helper args' x at met has b;
    }

mutual
  stmt_lower : (w : Walk) (calls : List (Option Zone)) (vars : ℕ) (whole : List ProcId) (A : Assumed) (keeps : List Zone) (R : ℕ → Zone → Cond → Type 0) (k c : ℕ) (s : Stmt) (z y e d : Zone) → Setting w calls vars whole A keeps R →
      z.vars ≡ vars → y.vars ≡ vars → IsBelow y z → IsFloored y → IsReady w.program vars s → IsFair s → AreIn whole c (callees s) → Runs A keeps R k c s z e → Holds (by_row w) calls k c s y d → Lower w calls vars R c (callees s) e d
  stmt_lower w calls vars whole A keeps R k c (plain simple) z y e d set zv yv below floored ready fair are (s, x, end) (t, x', allowed, end') =
      plain_lower w calls vars whole A keeps R c simple z y e d s t set zv yv below ready fair x x' end end'
  stmt_lower w calls vars whole A keeps R k c (help to callee codes) z y e d set zv yv below floored ready fair are h g =
      call_lower w calls vars whole A keeps R k c to callee codes z y e d set zv yv below floored ready are h g
  stmt_lower w calls vars whole A keeps R k c (branch test first second) z y e d set zv yv below floored ready fair are (z1, z2, e1, e2, x, h1, h2, j) (y1, y2, d1, d2, x', g1, g2, j') =
      let k2 = k + block_loops first in
      let c2 = c + length (block_callees first) in
      let m = branch_mono test y z y1 y2 z1 z2 (yv ∙ sym zv) (subst (λ u. IsTestInside u test) (sym zv) ready.0) x' x below in
      let l1 = block_lower w calls vars whole A keeps R k c first z1 y1 e1 d1 set (x.holds.greatest.vars ∙ zv) (x'.holds.greatest.vars ∙ yv) m.0 (normal_floored y1 x'.holds.greatest.normal) ready.1 fair.0
      (are_first whole c (block_callees first) (block_callees second) are) h1 g1 in
      let l2 = block_lower w calls vars whole A keeps R k2 c2 second z2 y2 e2 d2 set (x.fails.greatest.vars ∙ zv) (x'.fails.greatest.vars ∙ yv) m.1 (normal_floored y2 x'.fails.greatest.normal) ready.2 fair.1
      (are_second whole c (block_callees first) (block_callees second) are) h2 g2 in
      record {
        below = join_mono d1 d2 e1 e2 d e (l1.end_vars ∙ sym l1.vars_are) (l2.end_vars ∙ sym l1.vars_are) (l2.vars_are ∙ sym l1.vars_are) j' j l1.below l2.below;
        vars_are = j.vars ∙ l1.vars_are;
        end_vars = j'.vars ∙ l1.end_vars;
        floored = join_floored d1 d2 d (l2.end_vars ∙ sym l1.end_vars) j' l1.floored l2.floored;
        calls_below = both_calls w calls R c (block_callees first) (block_callees second) l1.calls_below l2.calls_below;
      }
  stmt_lower w calls vars whole A keeps R k c (loop index slot bound most site body) z y e d set zv yv below floored ready fair are (kept, normed, turned, end, x1, x2, x3, x4, x5)
      (s', kept', normed', turned', end', again', y0, y1, y2, y3, y4, y5, y6, y7, y8, y9) =
      let same : kept' ≡ kept = some_same (sym y1 ∙ (ap (λ (ks : List Zone). slice_get ks k) set.keeps_are ∙ x1)) in
      let norm : normed' ≡ normed = norm_once kept normed' normed (subst (λ (x : Zone). IsNormOf x normed') same y4) x2 in
      let turn' = subst (λ (x : Zone). IsTurn index slot x turned') norm y5 in
      let leaves' = subst (λ (x : Zone). IsLeft index slot x d) norm y9 in
      let over : normed.vars ≡ vars = x2.vars ∙ all_at (λ z. vars_of z ≡ vars) keeps k kept set.over x1 in
      let hi = subst (λ u. IsVariable u index) (sym over) ready.0 in
      let hs = subst (λ u. IsVariable u slot) (sym over) ready.1 in
      let l = block_lower w calls vars whole A keeps R (k + 1) c body turned turned' end end' set (x3.greatest.vars ∙ over) (turn'.greatest.vars ∙ over) (turn_mono index slot normed normed turned' turned refl hi hs turn' x3 (below_same normed))
      (normal_floored turned' turn'.greatest.normal) ready.3 fair.1 are x4 y6 in
      record {
        below = leave_mono index slot normed normed d e refl hi hs leaves' x5 (below_same normed);
        vars_are = x5.vars ∙ over;
        end_vars = leaves'.vars ∙ over;
        floored = normal_floored d (left_normal index slot normed d leaves');
        calls_below = l.calls_below;
      }

  pub block_lower : (w : Walk) (calls : List (Option Zone)) (vars : ℕ) (whole : List ProcId) (A : Assumed) (keeps : List Zone) (R : ℕ → Zone → Cond → Type 0) (k c : ℕ) (b : Block) (z y e d : Zone) → Setting w calls vars whole A keeps R →
      z.vars ≡ vars → y.vars ≡ vars → IsBelow y z → IsFloored y → AreReady w.program vars b → AreFair b → AreIn whole c (block_callees b) → RunsAll A keeps R k c b z e → HoldsAll (by_row w) calls k c b y d → Lower w calls vars R c (block_callees b) e d
  block_lower w calls vars whole A keeps R k c [] z y e d set zv yv below floored ready fair are h g = record {
    below = subst (λ (v : Zone). IsBelow d v) (sym h) (subst (λ (v : Zone). IsBelow v z) (sym g) below);
    vars_are = ap (λ (v : Zone). v.vars) h ∙ zv;
    end_vars = ap (λ (v : Zone). v.vars) g ∙ yv;
    floored = subst IsFloored (sym g) floored;
    calls_below = λ i callee args at met. absurd (none_at i callee at);
  }
  block_lower w calls vars whole A keeps R k c (s ⨾ rest) z y e d set zv yv below floored ready fair are (m, h1, h2) (m', g1, g2) =
      let l1 = stmt_lower w calls vars whole A keeps R k c s z y m m' set zv yv below floored ready.0 fair.0 (are_first whole c (callees s) (block_callees rest) are) h1 g1 in
      let l2 = block_lower w calls vars whole A keeps R (k + loops s) (c + length (callees s)) rest m m' e d set l1.vars_are l1.end_vars l1.below l1.floored ready.1 fair.1 (are_second whole c (callees s) (block_callees rest) are) h2 g2 in
      record {
        below = l2.below;
        vars_are = l2.vars_are;
        end_vars = l2.end_vars;
        floored = l2.floored;
        calls_below = both_calls w calls R c (callees s) (block_callees rest) l1.calls_below l2.calls_below;
      }
