-- The names that a procedure calls, and those that a program declares above it.
use Rattle.std.specs.Prelude.{MatchBool, List, [], ◌∷◌, ⊤}
use Rattle.std.specs.Str.{bytes_eq}
use Rattle.vmv_tree.specs.declared.name.Name.{Name}
use Rattle.vmv_tree.specs.Tree.{Stmt, copy, compute, call, assert, choose, repeat, Block, [], ◌⨾◌, Item, outside, helper, entry}

-- each callee is one of these
abbrev mutual
  pub Callees : (Name → Type 0) → Stmt → Type 0
  Callees ok (copy to from) = ⊤
  Callees ok (compute to op left right) = ⊤
  Callees ok (call to callee args) = ok callee
  Callees ok (assert test) = ⊤
  Callees ok (choose test first second) = BlockCallees ok first × BlockCallees ok second
  Callees ok (repeat index bound most body) = BlockCallees ok body

  pub BlockCallees : (Name → Type 0) → Block → Type 0
  BlockCallees ok [] = ⊤
  BlockCallees ok (s ⨾ rest) = Callees ok s × BlockCallees ok rest

abbrev pub ItemCallees : (Name → Type 0) → Item → Type 0
ItemCallees ok (outside name arity) = ⊤
ItemCallees ok (helper name params body) = BlockCallees ok body.block
ItemCallees ok (entry name params body) = BlockCallees ok body.block

-- of the items above, the nearest of this name is an outside function or a helper
abbrev pub Declares : List Item → Name → Type 0
Declares [] callee = ⊥
Declares (outside name arity ∷ above) callee = MatchBool (bytes_eq name callee) ⊤ (Declares above callee)
Declares (helper name params body ∷ above) callee = MatchBool (bytes_eq name callee) ⊤ (Declares above callee)
Declares (entry name params body ∷ above) callee = MatchBool (bytes_eq name callee) ⊥ (Declares above callee)

-- each callee is declared above
abbrev pub IsResolved : List Item → Type 0
IsResolved [] = ⊤
IsResolved (item ∷ above) = ItemCallees (Declares above) item × IsResolved above
