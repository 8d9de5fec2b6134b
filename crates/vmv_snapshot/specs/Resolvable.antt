-- What can be resolved: each name in it means something.
use Rattle.std.specs.Prelude.{◌≡◌, ◌⊎◌, ℕ, ◌+◌, ◌≤◌, Some, None, List, length, slice_get, ⊤}
use Rattle.std.specs.List.{All, Contains}
use Rattle.vmv_tree.specs.declared.name.Name.{Name}
use Rattle.vmv_tree.specs.declared.tree.Operand.{Operand}
use Rattle.vmv_tree.specs.declared.tree.Operand.TheVariants.{Lit, Var}
use Rattle.vmv_tree.specs.declared.tree.Test.{Test}
use Rattle.vmv_tree.specs.Tree.{Stmt, copy, compute, call, assert, choose, repeat, Block, [], ◌⨾◌, Body}
use Rattle.vmv_tree.specs.Run.{block_sites}
use Rattle.vmv_snapshot.specs.Resolves.{Scope}

-- some slot has this name
abbrev pub IsNamed : Scope → Name → Type 0
IsNamed scope name = Contains scope.slots (Some name)

abbrev pub IsKnown : Scope → Operand → Type 0
IsKnown scope (Lit word) = ⊤
IsKnown scope (Var name) = IsNamed scope name

abbrev pub IsKnownTest : Scope → Test → Type 0
IsKnownTest scope test = IsKnown scope test.left × IsKnown scope test.right

-- an outside name or a helper
abbrev pub IsCallee : Scope → Name → Type 0
IsCallee scope callee = Contains scope.outsides callee ⊎ Contains scope.helpers (Some callee)

-- some slot has this name, and behind each that has it stands one without a name
abbrev pub IsLoop : Scope → Name → Type 0
IsLoop scope index = IsNamed scope index × ((n : ℕ) → slice_get scope.slots n ≡ Some (Some index) → slice_get scope.slots (n + 1) ≡ Some None)

unfoldable mutual
  pub IsResolvable : Scope → Stmt → Type 0
  IsResolvable scope (copy to from) = IsNamed scope to × IsKnown scope from
  IsResolvable scope (compute to op left right) = IsNamed scope to × IsKnown scope left × IsKnown scope right
  IsResolvable scope (call to callee args) = IsNamed scope to × IsCallee scope callee × All (IsKnown scope) args
  IsResolvable scope (assert test) = IsKnownTest scope test
  IsResolvable scope (choose test first second) = IsKnownTest scope test × AreResolvable scope first × AreResolvable scope second
  IsResolvable scope (repeat index bound most body) = IsLoop scope index × IsKnown scope bound × AreResolvable scope body

  pub AreResolvable : Scope → Block → Type 0
  AreResolvable scope [] = ⊤
  AreResolvable scope (s ⨾ rest) = IsResolvable scope s × AreResolvable scope rest

-- a body, where its names mean this
pub record IsReady (scope : Scope) (body : Body) : Type 0 where
  pub slots : length scope.slots ≤ 17
  pub statements : AreResolvable scope body.block
  pub sites : block_sites body.block ≤ 2000
  pub returned : IsKnown scope body.output
