-- Which procedures a procedure reaches.
use Rattle.std.specs.Prelude.{◌≡◌, ◌⊎◌, ℕ, Some, List, [], ◌∷◌, slice_get}
use Rattle.vmv_tree.specs.declared.name.Name.{Name}
use Rattle.vmv_tree.specs.Tree.{Stmt, copy, compute, call, assert, choose, repeat, Block, [], ◌⨾◌, Item, outside, helper, entry}
use Rattle.vmv_tree.specs.Run.{name_of}
use Rattle.vmv_snapshot.specs.Procs.{procs}

-- some call in it is of this name
abbrev mutual
  pub Calls : Stmt → Name → Type 0
  Calls (copy to from) name = ⊥
  Calls (compute to op left right) name = ⊥
  Calls (call to callee args) name = callee ≡ name
  Calls (assert test) name = ⊥
  Calls (choose test first second) name = BlockCalls first name ⊎ BlockCalls second name
  Calls (repeat index bound most body) name = BlockCalls body name

  pub BlockCalls : Block → Name → Type 0
  BlockCalls [] name = ⊥
  BlockCalls (s ⨾ rest) name = Calls s name ⊎ BlockCalls rest name

abbrev pub ItemCalls : Item → Name → Type 0
ItemCalls (outside f arity) name = ⊥
ItemCalls (helper f params body) name = BlockCalls body.block name
ItemCalls (entry f params body) name = BlockCalls body.block name

-- the procedure of the one number calls that of the other
abbrev pub ProcCalls : List Item → ℕ → ℕ → Type 0
ProcCalls program from to =
    (caller : Item) × (callee : Item) × (slice_get (procs program) from ≡ Some caller) × (slice_get (procs program) to ≡ Some callee) × ItemCalls caller (name_of callee)

-- each calls the next, from the one number to the other
abbrev pub IsChain : List Item → ℕ → List ℕ → ℕ → Type 0
IsChain program from [] to = from ≡ to
IsChain program from (next ∷ chain) to = ProcCalls program from next × IsChain program next chain to

-- the one is the other, or a chain of calls leads there
abbrev pub Reaches : List Item → ℕ → ℕ → Type 0
Reaches program from to = (chain : List ℕ) × IsChain program from chain to
