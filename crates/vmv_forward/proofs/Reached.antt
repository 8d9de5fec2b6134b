-- The calls that a walk meets have arguments that aren't Bottom.
use Rattle.std.proofs.Common.{◌≡◌, inl, inr, ⊎_elim, ℕ, zero, suc, ◌+◌, Option, Some, None, List, [], ◌∷◌, ◌++◌, length, slice_get, sym, ap, subst, arith, ◌∙◌}
use Rattle.std.specs.List.{All}
use Rattle.vmv_snapshot.specs.declared.code.ProcId.{ProcId}
use Rattle.vmv_snapshot.specs.Code.{Stmt, plain, help, branch, loop, Block, [], ◌⨾◌}
use Rattle.vmv_snapshot.specs.Resolution.{Resolution}
use Rattle.vmv_zone.specs.declared.zone.Zone.{Zone}
use Rattle.vmv_zone.specs.declared.operand.ZoneValue.TheVariants.{Within}
use Rattle.vmv_zone.specs.Zone.{vars_of, NotBottom, IsNormal}
use Rattle.vmv_zone.proofs.MoreLaws.{assign_normal}
use Rattle.vmv_step.specs.Steps.{IsSimpleInside}
use Rattle.vmv_step.proofs.StepOrder.{step_normal}
use Rattle.vmv_cert.specs.Sizes.{loops, block_loops}
use Rattle.vmv_check.specs.Walker.{IsReady, AreReady}
use Rattle.vmv_check.proofs.Walking.{assigned_vars}
use Rattle.vmv_pass.specs.Callees.{callees, block_callees}
use Rattle.vmv_pass.specs.Source.{Source, assumed_in, keeps_in}
use Rattle.vmv_pass.specs.Holds.{Holds, HoldsAll}
use Rattle.vmv_forward.proofs.Items.{all_at, either_part}
use Rattle.vmv_forward.proofs.States.{IsFloored, normal_floored, norm_up, join_floored, left_normal}

-- each call that is met, the first being the c-th, has arguments that aren't Bottom
abbrev pub AreReached : List (Option Zone) → ℕ → List ProcId → Type 0
AreReached calls c list = (i : ℕ) (callee : ProcId) (args : Zone) → slice_get list i ≡ Some callee → slice_get calls (c + i) ≡ Some (Some args) → NotBottom args

none_reached : (calls : List (Option Zone)) (c : ℕ) → AreReached calls c []
none_reached calls c i callee args at met = absurd (cc)

both_reached : (calls : List (Option Zone)) (c : ℕ) (xs ys : List ProcId) → AreReached calls c xs → AreReached calls (c + length xs) ys → AreReached calls c (xs ++ ys)
both_reached calls c xs ys one two i callee args at met =
    ⊎_elim (λ (g : slice_get xs i ≡ Some callee). one i callee args g met)
    (λ (g : (d : ℕ) × (i ≡ length xs + d) × (slice_get ys d ≡ Some callee)).
    let e : c + i ≡ (c + length xs) + g.0 = (let f = g.1 in omega arith) in
    two g.0 callee args g.2 (subst (λ j. slice_get calls j ≡ Some (Some args)) e met))
    (either_part xs ys i callee at)

one_reached : (calls : List (Option Zone)) (c : ℕ) (callee : ProcId) → ((args : Zone) → slice_get calls c ≡ Some (Some args) → NotBottom args) → AreReached calls c (callee ∷ [])
one_reached calls c callee one zero other args at met = one args (subst (λ j. slice_get calls j ≡ Some (Some args)) (let t : c + 0 ≡ c = omega arith in t) met)
one_reached calls c callee one (suc i) other args at met = absurd (cc)

no_args : {P : Type 0} (calls : List (Option Zone)) (c : ℕ) (args : Zone) → slice_get calls c ≡ Some None → slice_get calls c ≡ Some (Some args) → P
no_args calls c args one other = absurd (cc)

same_args : (calls : List (Option Zone)) (c : ℕ) (a b : Zone) → slice_get calls c ≡ Some (Some a) → slice_get calls c ≡ Some (Some b) → a ≡ b
same_args calls c a b one other = cc

-- the state behind a walk, and the calls
pub record Ends (vars : ℕ) (calls : List (Option Zone)) (c : ℕ) (list : List ProcId) (e : Zone) : Type 0 where
  pub over : e.vars ≡ vars
  pub floored : IsFloored e
  pub reached : AreReached calls c list

mutual
  stmt_ends : (program : Resolution) (source : Source) (calls : List (Option Zone)) (vars k c : ℕ) (s : Stmt) (z e : Zone) → All (λ z. vars_of z ≡ vars) (keeps_in source) → z.vars ≡ vars → IsFloored z → IsReady program vars s → Holds source calls k c s z e →
      Ends vars calls c (callees s) e
  stmt_ends program source calls vars k c (plain simple) z e kept zv floored ready (s, x, told, end) =
      let n = step_normal simple (assumed_in source) z s (subst (λ v. IsSimpleInside v simple) (sym zv) ready) x in
      record { over = ap (λ (v : Zone). v.vars) end ∙ (n.1 ∙ zv); floored = normal_floored e (subst IsNormal (sym end) n.0); reached = none_reached calls c }
  stmt_ends program source calls vars k c (help to callee codes) z e kept zv floored ready (inl (bottom, none, end)) = record {
    over = ap (λ (v : Zone). v.vars) end ∙ zv;
    floored = subst IsFloored (sym end) floored;
    reached = one_reached calls c callee (λ args met. no_args calls c args none met);
  }
  stmt_ends program source calls vars k c (help to callee codes) z e kept zv floored ready (inr (up, (args, cond, is, met, answer, given))) =
      let some : NotBottom args = is.bottom ∙ norm_up z is.before floored is.norm up in
      record {
        over = assigned_vars z e to.0 (Within cond) given ∙ zv;
        floored = normal_floored e (assign_normal z e to.0 (Within cond) ready.0.0 given);
        reached = one_reached calls c callee (λ other there. subst NotBottom (same_args calls c args other met there) some);
      }
  stmt_ends program source calls vars k c (branch test first second) z e kept zv floored ready (z1, z2, e1, e2, x, one, two, join) =
      let a = block_ends program source calls vars k c first z1 e1 kept (x.holds.greatest.vars ∙ zv) (normal_floored z1 x.holds.greatest.normal) ready.1 one in
      let b = block_ends program source calls vars (k + block_loops first) (c + length (block_callees first)) second z2 e2 kept (x.fails.greatest.vars ∙ zv) (normal_floored z2 x.fails.greatest.normal) ready.2 two in
      record {
        over = join.vars ∙ a.over;
        floored = join_floored e1 e2 e (b.over ∙ sym a.over) join a.floored b.floored;
        reached = both_reached calls c (block_callees first) (block_callees second) a.reached b.reached;
      }
  stmt_ends program source calls vars k c (loop index slot bound most site body) z e kept zv floored ready (s, state, normed, turned, end, again, x0, x1, x2, x3, x4, x5, inside, x6, x7, x8) =
      let over : normed.vars ≡ vars = x4.vars ∙ all_at (λ z. vars_of z ≡ vars) (keeps_in source) k state kept x1 in
      let b = block_ends program source calls vars (k + 1) c body turned end kept (x5.greatest.vars ∙ over) (normal_floored turned x5.greatest.normal) ready.3 inside in
      record { over = x8.vars ∙ over; floored = normal_floored e (left_normal index slot normed e x8); reached = b.reached }

  pub block_ends : (program : Resolution) (source : Source) (calls : List (Option Zone)) (vars k c : ℕ) (b : Block) (z e : Zone) → All (λ z. vars_of z ≡ vars) (keeps_in source) → z.vars ≡ vars → IsFloored z → AreReady program vars b →
      HoldsAll source calls k c b z e → Ends vars calls c (block_callees b) e
  block_ends program source calls vars k c [] z e kept zv floored ready end = record { over = ap (λ (v : Zone). v.vars) end ∙ zv; floored = subst IsFloored (sym end) floored; reached = none_reached calls c }
  block_ends program source calls vars k c (s ⨾ rest) z e kept zv floored ready (m, one, two) =
      let a = stmt_ends program source calls vars k c s z m kept zv floored ready.0 one in
      let b = block_ends program source calls vars (k + loops s) (c + length (callees s)) rest m e kept a.over a.floored ready.1 two in
      record { over = b.over; floored = b.floored; reached = both_reached calls c (callees s) (block_callees rest) a.reached b.reached }
