-- What the limits of the language measure.
use Rattle.std.specs.Prelude.{ℕ, ◌+◌, ◌*◌, max, ℤ, List, [], ◌∷◌, ◌++◌, length, if◌then◌else◌}
use Rattle.std.specs.List.{list_any}
use Rattle.std.specs.Ordering.{int_eq}
use Rattle.std.specs.Str.{bytes_eq}
use Rattle.vmv_tree.specs.declared.name.Name.{Name}
use Rattle.vmv_tree.specs.declared.tree.Operand.{Operand}
use Rattle.vmv_tree.specs.declared.tree.Operand.TheVariants.{Lit, Var}
use Rattle.vmv_tree.specs.declared.tree.Test.{Test}
use Rattle.vmv_tree.specs.declared.tree.Param.{Param}
use Rattle.vmv_tree.specs.Tree.{Stmt, copy, compute, call, assert, choose, repeat, Block, [], ◌⨾◌, Body, Item, outside, helper, entry}
use Rattle.vmv_tree.specs.Run.{turns_of}

-- What a call of a name brings, over the items above, the nearest first: that of an outside name, or that of a
-- helper's body, whose own calls are of the items above it. A name that none of these declares brings nothing.
abbrev pub brought : {A : Type 0} (nothing ask : A) (help : (Name → A) → Body → A) → List Item → Name → A
brought nothing ask help [] callee = nothing
brought nothing ask help (outside name arity ∷ above) callee =
    if bytes_eq name callee then ask else brought nothing ask help above callee
brought nothing ask help (helper name params body ∷ above) callee =
    if bytes_eq name callee then help (brought nothing ask help above) body else brought nothing ask help above callee
brought nothing ask help (entry name params body ∷ above) callee = brought nothing ask help above callee

-- items of one kind

abbrev pub outside_count : List Item → ℕ
outside_count [] = 0
outside_count (outside name arity ∷ items) = 1 + outside_count items
outside_count (helper name params body ∷ items) = outside_count items
outside_count (entry name params body ∷ items) = outside_count items

abbrev pub helper_count : List Item → ℕ
helper_count [] = 0
helper_count (outside name arity ∷ items) = helper_count items
helper_count (helper name params body ∷ items) = 1 + helper_count items
helper_count (entry name params body ∷ items) = helper_count items

abbrev pub entry_count : List Item → ℕ
entry_count [] = 0
entry_count (outside name arity ∷ items) = entry_count items
entry_count (helper name params body ∷ items) = entry_count items
entry_count (entry name params body ∷ items) = 1 + entry_count items

-- the indexes that a statement declares, in text order
abbrev mutual
  pub indexes_of : Stmt → List Name
  indexes_of (copy to from) = []
  indexes_of (compute to op left right) = []
  indexes_of (call to callee args) = []
  indexes_of (assert test) = []
  indexes_of (choose test first second) = block_indexes first ++ block_indexes second
  indexes_of (repeat index bound most body) = index ∷ block_indexes body

  pub block_indexes : Block → List Name
  block_indexes [] = []
  block_indexes (s ⨾ rest) = indexes_of s ++ block_indexes rest

-- the variables of a procedure: its parameters and `var` names, and an index and a bound for each loop
abbrev pub variables : List Name → Body → ℕ
variables params body = length params + length body.vars + 2 * length (block_indexes body.block)

-- statements, nested ones counted, the `return` not
abbrev mutual
  pub statements : Stmt → ℕ
  statements (copy to from) = 1
  statements (compute to op left right) = 1
  statements (call to callee args) = 1
  statements (assert test) = 1
  statements (choose test first second) = 1 + block_statements first + block_statements second
  statements (repeat index bound most body) = 1 + block_statements body

  pub block_statements : Block → ℕ
  block_statements [] = 0
  block_statements (s ⨾ rest) = statements s + block_statements rest

-- how deep blocks stand in one another inside a statement
abbrev mutual
  pub nesting : Stmt → ℕ
  nesting (copy to from) = 0
  nesting (compute to op left right) = 0
  nesting (call to callee args) = 0
  nesting (assert test) = 0
  nesting (choose test first second) = 1 + max (block_nesting first) (block_nesting second)
  nesting (repeat index bound most body) = 1 + block_nesting body

  pub block_nesting : Block → ℕ
  block_nesting [] = 0
  block_nesting (s ⨾ rest) = max (nesting s) (block_nesting rest)

-- the greatest that its calls bring
abbrev mutual
  pub deepest : (Name → ℕ) → Stmt → ℕ
  deepest of (copy to from) = 0
  deepest of (compute to op left right) = 0
  deepest of (call to callee args) = of callee
  deepest of (assert test) = 0
  deepest of (choose test first second) = max (block_deepest of first) (block_deepest of second)
  deepest of (repeat index bound most body) = block_deepest of body

  pub block_deepest : (Name → ℕ) → Block → ℕ
  block_deepest of [] = 0
  block_deepest of (s ⨾ rest) = max (deepest of s) (block_deepest of rest)

-- the depth of a helper: 1 more than its deepest callee
abbrev pub depth_of : (Name → ℕ) → Body → ℕ
depth_of of body = 1 + block_deepest of body.block

abbrev pub helper_depth : List Item → Body → ℕ
helper_depth above body = depth_of (brought 0 0 depth_of above) body

-- the sum of what its calls bring, loop bodies once
abbrev mutual
  pub paths : (Name → ℕ) → Stmt → ℕ
  paths of (copy to from) = 0
  paths of (compute to op left right) = 0
  paths of (call to callee args) = of callee
  paths of (assert test) = 0
  paths of (choose test first second) = block_paths of first + block_paths of second
  paths of (repeat index bound most body) = block_paths of body

  pub block_paths : (Name → ℕ) → Block → ℕ
  block_paths of [] = 0
  block_paths of (s ⨾ rest) = paths of s + block_paths of rest

-- the call paths of an entry: for each call of a helper 1 and the callee's own
abbrev pub call_paths : List Item → Body → ℕ
call_paths above body = block_paths (brought 0 0 (λ of b. 1 + block_paths of b.block) above) body.block

-- unrolled steps, where a call brings so many beside its own one
abbrev mutual
  pub steps : (Name → ℕ) → Stmt → ℕ
  steps of (copy to from) = 1
  steps of (compute to op left right) = 1
  steps of (call to callee args) = 1 + of callee
  steps of (assert test) = 1
  steps of (choose test first second) = 1 + block_steps of first + block_steps of second
  steps of (repeat index bound most body) = 1 + turns_of most * (1 + block_steps of body)

  pub block_steps : (Name → ℕ) → Block → ℕ
  block_steps of [] = 0
  block_steps of (s ⨾ rest) = steps of s + block_steps of rest

-- those of a body, its `return` too
abbrev pub body_steps : (Name → ℕ) → Body → ℕ
body_steps of body = block_steps of body.block + 1

abbrev pub unrolled_steps : List Item → Body → ℕ
unrolled_steps above body = body_steps (brought 0 0 body_steps above) body

-- unrolled outside calls, where a call brings so many
abbrev mutual
  pub asks : (Name → ℕ) → Stmt → ℕ
  asks of (copy to from) = 0
  asks of (compute to op left right) = 0
  asks of (call to callee args) = of callee
  asks of (assert test) = 0
  asks of (choose test first second) = block_asks of first + block_asks of second
  asks of (repeat index bound most body) = turns_of most * block_asks of body

  pub block_asks : (Name → ℕ) → Block → ℕ
  block_asks of [] = 0
  block_asks of (s ⨾ rest) = asks of s + block_asks of rest

abbrev pub unrolled_calls : List Item → Body → ℕ
unrolled_calls above body = block_asks (brought 0 1 (λ of b. block_asks of b.block) above) body.block

abbrev pub operand_numbers : Operand → List ℤ
operand_numbers (Lit word) = word ∷ []
operand_numbers (Var name) = []

abbrev pub test_numbers : Test → List ℤ
test_numbers test = operand_numbers test.left ++ operand_numbers test.right

abbrev pub args_numbers : List Operand → List ℤ
args_numbers [] = []
args_numbers (o ∷ args) = operand_numbers o ++ args_numbers args

-- literals and caps, with those that calls bring
abbrev mutual
  pub numbers : (Name → List ℤ) → Stmt → List ℤ
  numbers of (copy to from) = operand_numbers from
  numbers of (compute to op left right) = operand_numbers left ++ operand_numbers right
  numbers of (call to callee args) = args_numbers args ++ of callee
  numbers of (assert test) = test_numbers test
  numbers of (choose test first second) = test_numbers test ++ block_numbers of first ++ block_numbers of second
  numbers of (repeat index bound most body) = operand_numbers bound ++ most ∷ block_numbers of body

  pub block_numbers : (Name → List ℤ) → Block → List ℤ
  block_numbers of [] = []
  block_numbers of (s ⨾ rest) = numbers of s ++ block_numbers of rest

abbrev pub body_numbers : (Name → List ℤ) → Body → List ℤ
body_numbers of body = block_numbers of body.block ++ operand_numbers body.output

abbrev pub range_ends : List Param → List ℤ
range_ends [] = []
range_ends (p ∷ params) = p.lo ∷ p.hi ∷ range_ends params

-- the literals, caps and range ends of an entry, those of the helpers that it reaches included
abbrev pub entry_numbers : List Item → List Param → Body → List ℤ
entry_numbers above params body = range_ends params ++ body_numbers (brought [] [] body_numbers above) body

-- how many different numbers there are
abbrev pub distinct : List ℤ → ℕ
distinct [] = 0
distinct (n ∷ rest) = if list_any (int_eq n) rest then distinct rest else 1 + distinct rest
