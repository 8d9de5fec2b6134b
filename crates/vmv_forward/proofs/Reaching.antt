-- A procedure reaches what the helpers that it calls reach.
use Rattle.std.proofs.Common.{◌≡◌, inl, inr, ⊎_elim, ℕ, zero, suc, Some, [], ◌∷◌, slice_get, ap, arith}
use Rattle.std.specs.List.{Contains}
use Rattle.std.proofs.lemmas.List.Elements.{Contains-append_cases}
use Rattle.vmv_snapshot.specs.declared.code.Code.{Code}
use Rattle.vmv_snapshot.specs.declared.code.ProcId.{ProcId}
use Rattle.vmv_snapshot.specs.Code.{Stmt, plain, help, branch, loop, Block, [], ◌⨾◌}
use Rattle.vmv_snapshot.specs.View.{code_of}
use Rattle.vmv_snapshot.specs.Reaches.{Reaches}
use Rattle.vmv_snapshot.specs.Resolution.{Resolution, IsResolution, tree_of}
use Rattle.vmv_snapshot.specs.Rows.{Helps, BlockHelps}
use Rattle.vmv_snapshot.proofs.Links.{helps_call}
use Rattle.vmv_check.proofs.Lists.{got_in}
use Rattle.vmv_pass.specs.Callees.{callees, block_callees}

none_in : (x : ProcId) → Contains [] x → ⊥
none_in x (k, h, e) = absurd (omega (arith, h))

one_in : (x y : ProcId) → Contains (y ∷ []) x → y.0 ≡ x.0
one_in x y (zero, h, e) = ap (λ (p : ProcId). p.0) e
one_in x y (suc k, h, e) = absurd (omega (arith, h))

mutual
  stmt_helps : (s : Stmt) (x : ProcId) → Contains (callees s) x → Helps s x.0
  stmt_helps (plain simple) x c = absurd (none_in x c)
  stmt_helps (help to callee args) x c = one_in x callee c
  stmt_helps (branch test first second) x c =
      ⊎_elim (λ (g : Contains (block_callees first) x). inl (block_helps first x g)) (λ (g : Contains (block_callees second) x). inr (block_helps second x g))
      (Contains-append_cases (block_callees first) (block_callees second) x c)
  stmt_helps (loop index slot bound most site body) x c = block_helps body x c

  block_helps : (b : Block) (x : ProcId) → Contains (block_callees b) x → BlockHelps b x.0
  block_helps [] x c = absurd (none_in x c)
  block_helps (s ⨾ rest) x c =
      ⊎_elim (λ (g : Contains (callees s) x). inl (stmt_helps s x g)) (λ (g : Contains (block_callees rest) x). inr (block_helps rest x g))
      (Contains-append_cases (callees s) (block_callees rest) x c)

-- what the helper of the c-th call reaches, the caller reaches; and the helper stands before it
pub reaches_on : (program : Resolution) (p c m : ℕ) (code : Code) (callee : ProcId) → IsResolution program → slice_get program.codes p ≡ Some code → slice_get (block_callees (code_of code).block) c ≡ Some callee →
    Reaches (tree_of program) callee.0 m → Reaches (tree_of program) p m
reaches_on program p c m code callee is at called (chain, h) =
    let calls = helps_call (tree_of program) p (code_of code) (is.resolves p code at) callee.0 (block_helps (code_of code).block callee (got_in (block_callees (code_of code).block) c callee called)) in
    (callee.0 ∷ chain, (calls.0, h))
