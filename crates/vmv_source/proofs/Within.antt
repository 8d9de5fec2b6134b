-- A defect stands at a mention of the part that has it, or before its end.
use Rattle.std.proofs.Common.{ℕ, ◌+◌, ◌<◌, List, [], ◌∷◌, ◌++◌, length, map, arith, ⊎_elim}
use Rattle.vmv_tree.specs.declared.defect.Defect.{Defect}
use Rattle.vmv_tree.specs.declared.name.Name.{Name}
use Rattle.vmv_tree.specs.declared.tree.Operand.{Operand}
use Rattle.vmv_tree.specs.declared.tree.Operand.TheVariants.{Lit, Var}
use Rattle.vmv_tree.specs.declared.tree.Test.{Test}
use Rattle.vmv_tree.specs.declared.tree.Param.{Param}
use Rattle.vmv_tree.specs.Tree.{Stmt, copy, compute, call, assert, choose, repeat, Block, [], ◌⨾◌, Body, Item, outside, helper, entry}
use Rattle.vmv_tree.specs.Mentions.{operand_mentions, test_mentions, args_mentions, mentions, block_mentions, body_mentions, item_mentions}
use Rattle.vmv_tree.specs.Limits.{block_indexes, indexes_of}
use Rattle.vmv_tree.specs.Valid.{Scope, InOperand, InTest, InArgs, InTarget, InCallee, InStmt, InBlock, InNames, InParams, InBody, InProcedure, InEntry, InItem, InItems, HasDefect}
use Rattle.vmv_text.specs.Mentioned.{program_mentions}

in_operand : (scope : Scope) (k m : ℕ) (d : Defect) (o : Operand) → InOperand scope k o m d → m < k + operand_mentions o
in_operand scope k m d (Lit w) h = absurd h
in_operand scope k m d (Var x) h = let e = h.0 in omega arith

in_test : (scope : Scope) (k m : ℕ) (d : Defect) (test : Test) → InTest scope k test m d → m < k + test_mentions test
in_test scope k m d test h =
    ⊎_elim
    (λ l. let e = in_operand scope k m d test.left l in omega arith)
    (λ r. let e = in_operand scope (k + operand_mentions test.left) m d test.right r in omega arith)
    h

in_args : (scope : Scope) (k m : ℕ) (d : Defect) (args : List Operand) → InArgs scope k args m d → m < k + args_mentions args
in_args scope k m d [] h = absurd h
in_args scope k m d (o ∷ args) h =
    ⊎_elim
    (λ l. let e = in_operand scope k m d o l in omega arith)
    (λ r. let e = in_args scope (k + operand_mentions o) m d args r in omega arith)
    h

in_target : (scope : Scope) (k m : ℕ) (d : Defect) (to : Name) → InTarget scope k to m d → m < k + 1
in_target scope k m d to h = ⊎_elim (λ l. let e = l.0 in omega arith) (λ r. let e = r.0 in omega arith) h

in_callee : (scope : Scope) (k m n : ℕ) (d : Defect) (callee : Name) → InCallee scope k callee n m d → m < k + 1
in_callee scope k m n d callee h = ⊎_elim (λ l. let e = l.0 in omega arith) (λ r. let e = r.0 in omega arith) h

mutual
  in_stmt : (scope : Scope) (k m : ℕ) (d : Defect) (s : Stmt) → InStmt scope k s m d → m < k + mentions s
  in_stmt scope k m d (copy to from) h =
      ⊎_elim (λ a. let e = in_target scope k m d to a in omega arith) (λ b. let e = in_operand scope (k + 1) m d from b in omega arith) h
  in_stmt scope k m d (compute to op left right) h =
      ⊎_elim (λ a. let e = in_target scope k m d to a in omega arith)
      (λ b. ⊎_elim (λ l. let e = in_operand scope (k + 1) m d left l in omega arith)
      (λ r. let e = in_operand scope (k + 1 + operand_mentions left) m d right r in omega arith) b)
      h
  in_stmt scope k m d (call to callee args) h =
      ⊎_elim (λ a. let e = in_target scope k m d to a in omega arith)
      (λ b. ⊎_elim (λ l. let e = in_callee scope (k + 1) m (length args) d callee l in omega arith)
      (λ r. let e = in_args scope (k + 2) m d args r in omega arith) b)
      h
  in_stmt scope k m d (assert test) h = in_test scope k m d test h
  in_stmt scope k m d (choose test first second) h =
      ⊎_elim (λ a. let e = in_test scope k m d test a in omega arith)
      (λ b. ⊎_elim (λ l. let e = in_block scope (k + test_mentions test) m d first l in omega arith)
      (λ r. let e = in_block (record scope { declared = scope.declared ++ block_indexes first }) (k + test_mentions test + block_mentions first) m d second r in omega arith) b)
      h
  in_stmt scope k m d (repeat index bound most body) h =
      ⊎_elim (λ a. let e = a.0 in omega arith)
      (λ b. ⊎_elim (λ l. let e = in_operand scope (k + 1) m d bound l in omega arith)
      (λ r. let e = in_block (record scope {
        visible = index ∷ scope.visible;
        indexes = index ∷ scope.indexes;
        declared = scope.declared ++ index ∷ [];
      }) (k + 1 + operand_mentions bound) m d body r in omega arith) b)
      h

  in_block : (scope : Scope) (k m : ℕ) (d : Defect) (b : Block) → InBlock scope k b m d → m < k + block_mentions b
  in_block scope k m d [] h = absurd h
  in_block scope k m d (s ⨾ rest) h =
      ⊎_elim (λ a. let e = in_stmt scope k m d s a in omega arith)
      (λ b. let e = in_block (record scope { declared = scope.declared ++ indexes_of s }) (k + mentions s) m d rest b in omega arith)
      h

in_names : (k m : ℕ) (d : Defect) (seen names : List Name) → InNames k seen names m d → m < k + length names
in_names k m d seen [] h = absurd h
in_names k m d seen (name ∷ names) h =
    ⊎_elim (λ a. let e = a.0 in omega arith) (λ b. let e = in_names (k + 1) m d (seen ++ name ∷ []) names b in omega arith) h

in_params : (k m : ℕ) (d : Defect) (seen : List Name) (params : List Param) → InParams k seen params m d → m < k + length params
in_params k m d seen [] h = absurd h
in_params k m d seen (p ∷ params) h =
    ⊎_elim (λ a. let e = a.0 in omega arith)
    (λ b. ⊎_elim (λ a. let e = a.0 in omega arith) (λ c. let e = in_params (k + 1) m d (seen ++ p.name ∷ []) params c in omega arith) b) h

in_body : (above : List Item) (k m : ℕ) (d : Defect) (params : List Name) (body : Body) → InBody above k params body m d → m < k + body_mentions body
in_body above k m d params body h =
    let inside = k + length body.vars in
    let scope : Scope = record { above = above; visible = params ++ body.vars; indexes = []; declared = params ++ body.vars } in
    ⊎_elim (λ a. let e = in_names k m d params body.vars a in omega arith)
    (λ b. ⊎_elim (λ l. let e = in_block scope inside m d body.block l in omega arith)
    (λ r. let e = in_operand scope (inside + block_mentions body.block) m d body.output r in omega arith) b)
    h

in_procedure : (k m : ℕ) (d : Defect) (params : List Name) (body : Body) → InProcedure k params body m d → m < k + 1
in_procedure k m d params body h =
    ⊎_elim (λ a. let e = a.0 in omega arith) (λ b. ⊎_elim (λ a. let e = a.0 in omega arith) (λ a. let e = a.0 in omega arith) b) h

in_entry : (above : List Item) (k m : ℕ) (d : Defect) (params : List Param) (body : Body) → InEntry above k params body m d → m < k + 1
in_entry above k m d params body h =
    ⊎_elim (λ a. let e = a.0 in omega arith)
    (λ b. ⊎_elim (λ a. let e = a.0 in omega arith) (λ c. ⊎_elim (λ a. let e = a.0 in omega arith) (λ a. let e = a.0 in omega arith) c) b) h

in_item : (program above : List Item) (k m : ℕ) (d : Defect) (item : Item) → InItem program above k item m d → m < k + item_mentions item
in_item program above k m d (outside name arity) h =
    ⊎_elim (λ a. let e = a.0 in omega arith) (λ b. ⊎_elim (λ a. let e = a.0 in omega arith) (λ a. let e = a.0 in omega arith) b) h
in_item program above k m d (helper name params body) h =
    ⊎_elim (λ a. let e = a.0 in omega arith)
    (λ b. ⊎_elim (λ a. let e = a.0 in omega arith)
    (λ b. ⊎_elim (λ a. let e = in_procedure k m d params body a in omega arith)
    (λ b. ⊎_elim (λ a. let e = a.0 in omega arith)
    (λ b. ⊎_elim (λ a. let e = in_names (k + 1) m d [] params a in omega arith)
    (λ a. let e = in_body above (k + 1 + length params) m d params body a in omega arith) b) b) b) b) h
in_item program above k m d (entry name params body) h =
    ⊎_elim (λ a. let e = a.0 in omega arith)
    (λ b. ⊎_elim (λ a. let e = a.0 in omega arith)
    (λ b. ⊎_elim (λ a. let e = in_procedure k m d (map (λ p. p.name) params) body a in omega arith)
    (λ b. ⊎_elim (λ a. let e = in_entry above k m d params body a in omega arith)
    (λ b. ⊎_elim (λ a. let e = in_params (k + 1) m d [] params a in omega arith)
    (λ a. let e = in_body above (k + 1 + length params) m d (map (λ p. p.name) params) body a in omega arith) b) b) b) b) h

in_items : (program above : List Item) (k m : ℕ) (d : Defect) (items : List Item) → InItems program above k items m d → m < k + program_mentions items
in_items program above k m d [] h = absurd h
in_items program above k m d (item ∷ items) h =
    ⊎_elim (λ a. let e = in_item program above k m d item a in omega arith)
    (λ b. let e = in_items program (item ∷ above) (k + item_mentions item) m d items b in omega arith) h

-- a defect of a program stands at one of its mentions
pub defect_within : (program : List Item) (m : ℕ) (d : Defect) → HasDefect program m d → m < program_mentions program
defect_within program m d h = let e = in_items program [] 0 m d program h in omega arith
