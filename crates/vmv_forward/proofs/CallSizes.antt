-- The calls that a walk meets have a state over the callee's parameters.
use Rattle.std.proofs.Common.{◌≡◌, inl, inr, ⊎_elim, ℕ, zero, suc, ◌+◌, Option, Some, None, List, [], ◌∷◌, ◌++◌, length, slice_get, sym, subst, arith, ◌∙◌}
use Rattle.std.proofs.lemmas.List.{length-map}
use Rattle.vmv_snapshot.specs.declared.code.ProcId.{ProcId}
use Rattle.vmv_snapshot.specs.Code.{Stmt, plain, help, branch, loop, Block, [], ◌⨾◌}
use Rattle.vmv_snapshot.specs.Resolution.{Resolution}
use Rattle.vmv_zone.specs.declared.zone.Zone.{Zone}
use Rattle.vmv_zone.specs.Zone.{vars_of}
use Rattle.vmv_step.specs.Zones.{zone_operand}
use Rattle.vmv_cert.specs.Sizes.{loops, block_loops}
use Rattle.vmv_pass.specs.Source.{Source}
use Rattle.vmv_check.specs.Walker.{HasParams, IsReady, AreReady}
use Rattle.vmv_pass.specs.Callees.{callees, block_callees}
use Rattle.vmv_pass.specs.Holds.{Holds, HoldsAll}
use Rattle.vmv_forward.proofs.Fronts.{at_either}

-- each call of these helpers, the first being the c-th, has a state over the callee's parameters
abbrev pub AreSized : Resolution → List (Option Zone) → ℕ → List ProcId → Type 0
AreSized program calls c list = (i : ℕ) (callee : ProcId) (args : Zone) → slice_get list i ≡ Some callee → slice_get calls (c + i) ≡ Some (Some args) → HasParams program callee.0 (vars_of args)

sized_both : (program : Resolution) (calls : List (Option Zone)) (c : ℕ) (xs ys : List ProcId) → AreSized program calls c xs → AreSized program calls (c + length xs) ys → AreSized program calls c (xs ++ ys)
sized_both program calls c xs ys one two i callee args at call =
    ⊎_elim (λ (h : slice_get xs i ≡ Some callee). one i callee args h call)
    (λ (h : (m : ℕ) × (i ≡ length xs + m) × (slice_get ys m ≡ Some callee)).
    let g = h.1 in
    let e : c + i ≡ c + length xs + h.0 = omega arith in
    two h.0 callee args h.2 (subst (λ k. slice_get calls k ≡ Some (Some args)) e call))
    (at_either xs ys i callee at)

first_call : (program : Resolution) (calls : List (Option Zone)) (c : ℕ) (callee : ProcId) → ((args : Zone) → slice_get calls c ≡ Some (Some args) → HasParams program callee.0 (vars_of args)) → AreSized program calls c (callee ∷ [])
first_call program calls c callee one zero other args at call =
    let e : c + 0 ≡ c = omega arith in
    let same : callee ≡ other = cc in
    subst (λ (x : ProcId). HasParams program x.0 (vars_of args)) same (one args (subst (λ k. slice_get calls k ≡ Some (Some args)) e call))
first_call program calls c callee one (suc i) other args at call = absurd (cc)

no_state : {P : Type 0} (calls : List (Option Zone)) (c : ℕ) (args : Zone) → slice_get calls c ≡ Some None → slice_get calls c ≡ Some (Some args) → P
no_state calls c args one other = absurd (cc)

one_state : (calls : List (Option Zone)) (c : ℕ) (a b : Zone) → slice_get calls c ≡ Some (Some a) → slice_get calls c ≡ Some (Some b) → a ≡ b
one_state calls c a b one other = cc

none_sized : (program : Resolution) (calls : List (Option Zone)) (c : ℕ) → AreSized program calls c []
none_sized program calls c i callee args at call = absurd (cc)

mutual
  stmt_sized : (program : Resolution) (source : Source) (calls : List (Option Zone)) (vars k c : ℕ) (s : Stmt) (z e : Zone) → IsReady program vars s → Holds source calls k c s z e → AreSized program calls c (callees s)
  stmt_sized program source calls vars k c (plain simple) z e ready h = none_sized program calls c
  stmt_sized program source calls vars k c (help to callee codes) z e ready (inl h) = first_call program calls c callee (λ args call. no_state calls c args h.1 call)
  stmt_sized program source calls vars k c (help to callee codes) z e ready (inr (f, (given, cond, is, at, answer, given'))) =
      let long = length-map codes zone_operand in
      let sized : HasParams program callee.0 (vars_of given) = subst (λ n. HasParams program callee.0 n) (sym (is.vars ∙ long)) ready.1 in
      first_call program calls c callee (λ args call. subst (λ (x : Zone). HasParams program callee.0 (vars_of x)) (one_state calls c given args at call) sized)
  stmt_sized program source calls vars k c (branch test first second) z e ready (z1, z2, e1, e2, x, h1, h2, join) =
      sized_both program calls c (block_callees first) (block_callees second) (block_sized program source calls vars k c first z1 e1 ready.1 h1)
      (block_sized program source calls vars (k + block_loops first) (c + length (block_callees first)) second z2 e2 ready.2 h2)
  stmt_sized program source calls vars k c (loop index slot bound most site body) z e ready (s, kept, normed, turned, end, again, x0, x1, x2, x3, x4, x5, h, x6, x7, x8) =
      block_sized program source calls vars (k + 1) c body turned end ready.3 h

  pub block_sized : (program : Resolution) (source : Source) (calls : List (Option Zone)) (vars k c : ℕ) (block : Block) (z e : Zone) → AreReady program vars block → HoldsAll source calls k c block z e → AreSized program calls c (block_callees block)
  block_sized program source calls vars k c [] z e ready h = none_sized program calls c
  block_sized program source calls vars k c (s ⨾ rest) z e ready (mid, x, h) =
      sized_both program calls c (callees s) (block_callees rest) (stmt_sized program source calls vars k c s z mid ready.0 x)
      (block_sized program source calls vars (k + loops s) (c + length (callees s)) rest mid e ready.1 h)
