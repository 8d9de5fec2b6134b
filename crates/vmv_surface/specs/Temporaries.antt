-- Temporaries: the variables that lowering adds. Temporary k is named `__k`, and k is 1 or more.
use Rattle.std.specs.Prelude.{ℕ, ◌+◌, ◌&&◌, Bool, false, not, List, [], ◌∷◌, ◌++◌, codes, take, if◌then◌else◌}
use Rattle.std.specs.Fmt.{digits_onto}
use Rattle.std.specs.List.{list_any}
use Rattle.std.specs.Str.{bytes_eq}
use Rattle.vmv_tree.specs.declared.name.Name.{Name}
use Rattle.vmv_tree.specs.Tree.{Stmt, copy, compute, call, assert, choose, repeat, Block, [], ◌⨾◌}

-- the decimal digits of a number, which are at most one more than it says, all of them
abbrev pub numeral : ℕ → List ℕ
numeral k = digits_onto (k + 1) 10 false k []

abbrev pub temporary : ℕ → Name
temporary k = codes "__" ++ numeral k

abbrev pub is_temporary : Name → Bool
is_temporary name = bytes_eq (take 2 name) (codes "__")

-- the names that statements set, in text order
abbrev mutual
  pub targets : Stmt → List Name
  targets (copy to from) = to ∷ []
  targets (compute to op left right) = to ∷ []
  targets (call to callee args) = to ∷ []
  targets (assert test) = []
  targets (choose test first second) = block_targets first ++ block_targets second
  targets (repeat index bound cap body) = block_targets body

  pub block_targets : Block → List Name
  block_targets [] = []
  block_targets (s ⨾ rest) = targets s ++ block_targets rest

-- the temporaries among these names, without those seen before, each once
abbrev pub new_temporaries : (seen : List Name) → List Name → List Name
new_temporaries seen [] = []
new_temporaries seen (name ∷ names) =
    if is_temporary name && not (list_any (bytes_eq name) seen)
    then name ∷ new_temporaries (name ∷ seen) names
    else new_temporaries seen names

-- The temporaries that the statements use, in the order of their first use. That is the order of their numbers, since
-- temporary k + 1 is used only where temporary k holds a value already.
abbrev pub temporaries_of : Block → List Name
temporaries_of block = new_temporaries [] (block_targets block)
