-- How a resolved procedure is a procedure of a program: slot by name, operand by operand, statement by statement.
use Rattle.std.specs.Prelude.{◌≡◌, ℕ, ◌+◌, Option, Some, None, List, [], ◌∷◌, ◌++◌, length, map, slice_get, ⊤}
use Rattle.std.specs.List.{Contains, AllZip}
use Rattle.vmv_tree.specs.declared.name.Name.{Name}
use Rattle.vmv_tree.specs.declared.tree.Operand.{Operand}
use Rattle.vmv_tree.specs.declared.tree.Operand.TheVariants.{Lit, Var}
use Rattle.vmv_tree.specs.declared.tree.Test.{Test}
use Rattle.vmv_tree.specs.Tree.{Stmt, copy, compute, call, assert, choose, repeat, Block, [], ◌⨾◌, Body, Item, outside, helper, entry}
use Rattle.vmv_tree.specs.Words.{IsWord}
use Rattle.vmv_tree.specs.Run.{sites, block_sites}
use Rattle.vmv_tree.specs.Limits.{block_indexes}
use Rattle.vmv_snapshot.specs.declared.code.Slot.{Slot}
use Rattle.vmv_snapshot.specs.declared.code.ProcId.{ProcId}
use Rattle.vmv_snapshot.specs.declared.code.CodeOperand.{CodeOperand}
use Rattle.vmv_snapshot.specs.declared.code.CodeOperand.TheVariants.{Lit, Var}
use Rattle.vmv_snapshot.specs.declared.code.CodeTest.{CodeTest}
use Rattle.vmv_snapshot.specs.declared.code.Simple.{Simple}
use Rattle.vmv_snapshot.specs.declared.code.Simple.TheVariants.{Set, Arith, Ask, Assert}
use Rattle.vmv_snapshot.specs.Code.{Stmt as CodeStmt, plain, help, branch, loop, Block as CodeBlock, [], ◌⨾◌, Body as CodeBody}
use Rattle.vmv_snapshot.specs.Procs.{procs, outsides, helper_name}

-- what the two slots of each loop are named: its index has a name, and its bound has none
abbrev pub loop_names : List Name → List (Option Name)
loop_names [] = []
loop_names (index ∷ indexes) = Some index ∷ None ∷ loop_names indexes

-- The names of the slots of a procedure, from slot 0 on, which stands for no variable and has none: the parameters, the
-- `var` names, then the index and the bound of each loop in text order.
abbrev pub slot_names : List Name → Body → List (Option Name)
slot_names params body = None ∷ map (λ name. Some name) (params ++ body.vars) ++ loop_names (block_indexes body.block)

-- what the names in a procedure mean
pub record Scope : Type 0 where
  -- the outside names before it, in text order
  pub outsides : List Name
  -- the names of the procedures before it, by their numbers; an entry isn't called, and has none
  pub helpers : List (Option Name)
  -- the names of its slots
  pub slots : List (Option Name)

-- the slot of the variable of this name
abbrev pub IsSlot : Scope → Name → Slot → Type 0
IsSlot scope name slot = slice_get scope.slots slot.0 ≡ Some (Some name)

-- the number of the helper of this name
abbrev pub IsHelper : Scope → Name → ProcId → Type 0
IsHelper scope name proc = slice_get scope.helpers proc.0 ≡ Some (Some name)

-- a literal, which is a word, stands for itself, and a variable for its slot
abbrev pub ResolvesOperand : Scope → Operand → CodeOperand → Type 0
ResolvesOperand scope (Lit word) (Lit same) = (same ≡ word) × IsWord word
ResolvesOperand scope (Var name) (Var slot) = IsSlot scope name slot
ResolvesOperand scope (Lit word) (Var slot) = ⊥
ResolvesOperand scope (Var name) (Lit word) = ⊥

abbrev pub ResolvesTest : Scope → Test → CodeTest → Type 0
ResolvesTest scope test code = ResolvesOperand scope test.left code.left × (code.rel ≡ test.rel) × ResolvesOperand scope test.right code.right

-- argument by argument
abbrev pub ResolvesArgs : Scope → List Operand → List CodeOperand → Type 0
ResolvesArgs scope args codes = AllZip (ResolvesOperand scope) args codes

-- a statement, k sites of the procedure being before it
unfoldable mutual
  pub Resolves : Scope → ℕ → Stmt → CodeStmt → Type 0
  Resolves scope k (copy to from) (plain (Set slot code)) = IsSlot scope to slot × ResolvesOperand scope from code
  Resolves scope k (compute to op left right) (plain (Arith slot same a b site)) =
      IsSlot scope to slot × (same ≡ op) × ResolvesOperand scope left a × ResolvesOperand scope right b × (site ≡ k + 1)
  Resolves scope k (call to callee args) (plain (Ask slot name codes)) =
      IsSlot scope to slot × (name ≡ callee) × Contains scope.outsides callee × ResolvesArgs scope args codes
  Resolves scope k (call to callee args) (help slot proc codes) = IsSlot scope to slot × IsHelper scope callee proc × ResolvesArgs scope args codes
  Resolves scope k (assert test) (plain (Assert code site)) = ResolvesTest scope test code × (site ≡ k + 1)
  Resolves scope k (choose test first second) (branch code one other) =
      ResolvesTest scope test code × ResolvesAll scope k first one × ResolvesAll scope (k + block_sites first) second other
  -- the bound's slot is the one behind the index's, and has no name
  Resolves scope k (repeat index bound most body) (loop slot next code same site inside) =
      IsSlot scope index slot × (next.0 ≡ slot.0 + 1) × (slice_get scope.slots next.0 ≡ Some None) × ResolvesOperand scope bound code
      × (same ≡ most) × (site ≡ k + 1) × ResolvesAll scope (k + 1) body inside
  Resolves scope k s c = ⊥

  pub ResolvesAll : Scope → ℕ → Block → CodeBlock → Type 0
  ResolvesAll scope k [] [] = ⊤
  ResolvesAll scope k (s ⨾ rest) (c ⨾ codes) = Resolves scope k s c × ResolvesAll scope (k + sites s) rest codes
  ResolvesAll scope k b c = ⊥

-- a procedure's body, where its names mean this
pub record ResolvesBody (scope : Scope) (body : Body) (code : CodeBody) : Type 0 where
  -- slot 0 isn't counted
  pub slots : code.vars + 1 ≡ length scope.slots
  pub statements : ResolvesAll scope 0 body.block code.block
  pub returned : ResolvesOperand scope body.output code.output

-- what the names in a procedure with these parameters mean, behind these items
abbrev pub scope_of : List Item → List Name → Body → Scope
scope_of before params body =
    record { outsides = outsides before; helpers = map helper_name (procs before); slots = slot_names params body }

-- a procedure, behind these items
abbrev pub ResolvesItem : List Item → Item → CodeBody → Type 0
ResolvesItem before (outside name arity) code = ⊥
ResolvesItem before (helper name params body) code = ResolvesBody (scope_of before params body) body code
ResolvesItem before (entry name params body) code = ResolvesBody (scope_of before (map (λ p. p.name) params) body) body code

-- the code of the procedure of this number
pub record IsCode (program : List Item) (number : ℕ) (code : CodeBody) : Type 0 where
  pub before : List Item
  pub item : Item
  pub after : List Item
  pub parts : program ≡ before ++ item ∷ after
  pub place : length (procs before) ≡ number
  pub resolves : ResolvesItem before item code
