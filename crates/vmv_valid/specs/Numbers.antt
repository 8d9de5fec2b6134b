-- The numbers of an entry and of the helpers that it reaches, where each called name is looked up once.
use Rattle.std.specs.Prelude.{ℕ, ◌+◌, ℤ, not, List, [], ◌∷◌, ◌++◌, filter, if◌then◌else◌}
use Rattle.std.specs.Ordering.{int_eq}
use Rattle.std.specs.Str.{bytes_eq}
use Rattle.vmv_tree.specs.declared.name.Name.{Name}
use Rattle.vmv_tree.specs.declared.tree.Param.{Param}
use Rattle.vmv_tree.specs.Tree.{Stmt, copy, compute, call, assert, choose, repeat, Block, [], ◌⨾◌, Body, Item, outside, helper, entry}
use Rattle.vmv_tree.specs.Limits.{numbers, body_numbers, range_ends}
use Rattle.vmv_valid.specs.Names.{is_among}

-- a call brings no numbers
abbrev pub no_numbers : Name → List ℤ
no_numbers name = []

-- the numbers of a statement without those that its calls bring
abbrev pub own_numbers : Stmt → List ℤ
own_numbers s = numbers no_numbers s

-- the names that are called, in text order
abbrev mutual
  pub called : Stmt → List Name
  called (copy to from) = []
  called (compute to op left right) = []
  called (call to callee args) = callee ∷ []
  called (assert test) = []
  called (choose test first second) = block_called first ++ block_called second
  called (repeat index bound most body) = block_called body

  pub block_called : Block → List Name
  block_called [] = []
  block_called (s ⨾ rest) = called s ++ block_called rest

-- these without a name
abbrev pub without : Name → List Name → List Name
without name names = filter (λ other. not (bytes_eq name other)) names

-- the numbers behind an item, where these are called below it
abbrev pub numbers_after : Item → List ℤ → List Name → List ℤ
numbers_after (outside name arity) numbers names = numbers
numbers_after (helper name params body) numbers names = if is_among names name then numbers ++ body_numbers no_numbers body else numbers
numbers_after (entry name params body) numbers names = numbers

-- the names behind an item that are still to be looked up
abbrev pub called_after : Item → List Name → List Name
called_after (outside name arity) names = without name names
called_after (helper name params body) names = if is_among names name then without name names ++ block_called body.block else without name names
called_after (entry name params body) names = names

-- these numbers, with those that calls of these names reach over the items above, the nearest first
abbrev pub reached : List Item → List ℤ → List Name → List ℤ
reached [] numbers names = numbers
reached (item ∷ above) numbers names = reached above (numbers_after item numbers names) (called_after item names)

abbrev pub reached_by : List Item → List Param → Body → List ℤ
reached_by above params body = reached above (range_ends params ++ body_numbers no_numbers body) (block_called body.block)

-- how many of these differ from the one before, the first of them from this
abbrev pub changes : ℤ → List ℤ → ℕ
changes before [] = 0
changes before (n ∷ rest) = if int_eq before n then changes n rest else 1 + changes n rest
