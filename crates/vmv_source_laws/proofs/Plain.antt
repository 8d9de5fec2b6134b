-- No statement, operand or name is over a limit: only items are.
use Rattle.std.proofs.Common.{ℕ, ◌+◌, List, [], ◌∷◌, ◌++◌, length, sym, subst, ⊎_elim}
use Rattle.std.specs.Bool.{⊤}
use Rattle.vmv_tree.specs.declared.defect.Defect.{Defect}
use Rattle.vmv_tree.specs.declared.defect.Defect.TheVariants.{UnknownName, Repeated, ArityWrong, IndexAssigned, RangeEmpty, Limit}
use Rattle.vmv_tree.specs.declared.name.Name.{Name}
use Rattle.vmv_tree.specs.declared.tree.Operand.{Operand}
use Rattle.vmv_tree.specs.declared.tree.Operand.TheVariants.{Lit, Var}
use Rattle.vmv_tree.specs.declared.tree.Test.{Test}
use Rattle.vmv_tree.specs.declared.tree.Param.{Param}
use Rattle.vmv_tree.specs.Tree.{Stmt, copy, compute, call, assert, choose, repeat, Block, [], ◌⨾◌, Body, Item}
use Rattle.vmv_tree.specs.Mentions.{operand_mentions, test_mentions, mentions, block_mentions}
use Rattle.vmv_tree.specs.Limits.{block_indexes, indexes_of}
use Rattle.vmv_tree.specs.Valid.{Scope, At, InOperand, InTest, InArgs, InTarget, InCallee, InStmt, InBlock, InNames, InParams, InBody}

-- the defect is no limit
abbrev pub IsPlain : Defect → Type 0
IsPlain UnknownName = ⊤
IsPlain Repeated = ⊤
IsPlain ArityWrong = ⊤
IsPlain IndexAssigned = ⊤
IsPlain RangeEmpty = ⊤
IsPlain (Limit which found most) = ⊥

pub plain_at : (k m : ℕ) (defect d : Defect) (P : Type 0) → IsPlain defect → At k defect P m d → IsPlain d
plain_at k m defect d P plain h = subst IsPlain (sym h.1) plain

in_operand : (scope : Scope) (k m : ℕ) (d : Defect) (o : Operand) → InOperand scope k o m d → IsPlain d
in_operand scope k m d (Lit w) h = absurd h
in_operand scope k m d (Var x) h = subst IsPlain (sym h.1) tt

in_test : (scope : Scope) (k m : ℕ) (d : Defect) (test : Test) → InTest scope k test m d → IsPlain d
in_test scope k m d test h =
    ⊎_elim (λ l. in_operand scope k m d test.left l) (λ r. in_operand scope (k + operand_mentions test.left) m d test.right r) h

in_args : (scope : Scope) (k m : ℕ) (d : Defect) (args : List Operand) → InArgs scope k args m d → IsPlain d
in_args scope k m d [] h = absurd h
in_args scope k m d (o ∷ args) h = ⊎_elim (λ l. in_operand scope k m d o l) (λ r. in_args scope (k + operand_mentions o) m d args r) h

in_target : (scope : Scope) (k m : ℕ) (d : Defect) (to : Name) → InTarget scope k to m d → IsPlain d
in_target scope k m d to h = ⊎_elim (λ l. subst IsPlain (sym l.1) tt) (λ r. subst IsPlain (sym r.1) tt) h

in_callee : (scope : Scope) (k m n : ℕ) (d : Defect) (callee : Name) → InCallee scope k callee n m d → IsPlain d
in_callee scope k m n d callee h = ⊎_elim (λ l. subst IsPlain (sym l.1) tt) (λ r. subst IsPlain (sym r.1) tt) h

mutual
  in_stmt : (scope : Scope) (k m : ℕ) (d : Defect) (s : Stmt) → InStmt scope k s m d → IsPlain d
  in_stmt scope k m d (copy to from) h = ⊎_elim (λ a. in_target scope k m d to a) (λ b. in_operand scope (k + 1) m d from b) h
  in_stmt scope k m d (compute to op left right) h =
      ⊎_elim (λ a. in_target scope k m d to a)
      (λ b. ⊎_elim (λ l. in_operand scope (k + 1) m d left l) (λ r. in_operand scope (k + 1 + operand_mentions left) m d right r) b) h
  in_stmt scope k m d (call to callee args) h =
      ⊎_elim (λ a. in_target scope k m d to a)
      (λ b. ⊎_elim (λ l. in_callee scope (k + 1) m (length args) d callee l) (λ r. in_args scope (k + 2) m d args r) b) h
  in_stmt scope k m d (assert test) h = in_test scope k m d test h
  in_stmt scope k m d (choose test first second) h =
      ⊎_elim (λ a. in_test scope k m d test a)
      (λ b. ⊎_elim (λ l. in_block scope (k + test_mentions test) m d first l)
      (λ r. in_block (record scope { declared = scope.declared ++ block_indexes first }) (k + test_mentions test + block_mentions first) m d second r) b) h
  in_stmt scope k m d (repeat index bound most body) h =
      ⊎_elim (λ a. subst IsPlain (sym a.1) tt)
      (λ b. ⊎_elim (λ l. in_operand scope (k + 1) m d bound l)
      (λ r. in_block (record scope {
        visible = index ∷ scope.visible;
        indexes = index ∷ scope.indexes;
        declared = scope.declared ++ index ∷ [];
      }) (k + 1 + operand_mentions bound) m d body r) b) h

  in_block : (scope : Scope) (k m : ℕ) (d : Defect) (b : Block) → InBlock scope k b m d → IsPlain d
  in_block scope k m d [] h = absurd h
  in_block scope k m d (s ⨾ rest) h =
      ⊎_elim (λ a. in_stmt scope k m d s a) (λ b. in_block (record scope { declared = scope.declared ++ indexes_of s }) (k + mentions s) m d rest b) h

pub in_names : (k m : ℕ) (d : Defect) (seen names : List Name) → InNames k seen names m d → IsPlain d
in_names k m d seen [] h = absurd h
in_names k m d seen (name ∷ names) h = ⊎_elim (λ a. subst IsPlain (sym a.1) tt) (λ b. in_names (k + 1) m d (seen ++ name ∷ []) names b) h

pub in_params : (k m : ℕ) (d : Defect) (seen : List Name) (params : List Param) → InParams k seen params m d → IsPlain d
in_params k m d seen [] h = absurd h
in_params k m d seen (p ∷ params) h =
    ⊎_elim (λ a. subst IsPlain (sym a.1) tt)
    (λ b. ⊎_elim (λ a. subst IsPlain (sym a.1) tt) (λ c. in_params (k + 1) m d (seen ++ p.name ∷ []) params c) b) h

pub in_body : (above : List Item) (k m : ℕ) (d : Defect) (params : List Name) (body : Body) → InBody above k params body m d → IsPlain d
in_body above k m d params body h =
    let inside = k + length body.vars in
    let scope : Scope = record { above = above; visible = params ++ body.vars; indexes = []; declared = params ++ body.vars } in
    ⊎_elim (λ a. in_names k m d params body.vars a)
    (λ b. ⊎_elim (λ l. in_block scope inside m d body.block l) (λ r. in_operand scope (inside + block_mentions body.block) m d body.output r) b) h
