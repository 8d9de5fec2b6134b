-- What is told of programs in which blocks stand too deep in one another. Numbers above 1,000,000,000 are told as that.
use Rattle.std.specs.Prelude.{◌≡◌, ◌<◌, min, Bool, true, false, List, ◌∷◌, ◌++◌, map}
use Rattle.vmv_tree.specs.declared.deep.ItemCounts.{ItemCounts}
use Rattle.vmv_tree.specs.declared.deep.DeepProcedure.{DeepProcedure}
use Rattle.vmv_tree.specs.declared.deep.DeepProgram.{DeepProgram}
use Rattle.vmv_tree.specs.declared.name.Name.{Name}
use Rattle.vmv_tree.specs.Tree.{Body, Item, outside, helper, entry}
use Rattle.vmv_tree.specs.View.{items_of}
use Rattle.vmv_tree.specs.Limits.{outside_count, helper_count, entry_count, variables, block_statements, block_nesting}

-- the items have so many of each kind
pub record HasCounts (counts : ItemCounts) (items : List Item) : Type 0 where
  pub outsides : counts.outsides ≡ min (outside_count items) 1000000000
  pub helpers : counts.helpers ≡ min (helper_count items) 1000000000
  pub entries : counts.entries ≡ min (entry_count items) 1000000000

-- a procedure of this kind, with this name, these parameters and this body
pub record IsSized (deep : DeepProcedure) (is_entry : Bool) (name : Name) (params : List Name) (body : Body) : Type 0 where
  pub name_is : deep.name ≡ name
  pub kind : deep.is_entry ≡ is_entry
  pub variables_are : deep.variables ≡ min (variables params body) 1000000000
  pub statements_are : deep.statements ≡ min (block_statements body.block) 1000000000
  pub nesting_is : deep.nesting ≡ min (block_nesting body.block) 1000000000
  pub too_deep : 8 < block_nesting body.block

abbrev pub IsDeep : DeepProcedure → Item → Type 0
IsDeep deep (outside name arity) = ⊥
IsDeep deep (helper name params body) = IsSized deep false name params body
IsDeep deep (entry name params body) = IsSized deep true name (map (λ p. p.name) params) body

-- the program has the items above, and then such a procedure
pub record IsDeepProgram (told : DeepProgram) (program : List Item) : Type 0 where
  pub item : Item
  pub below : List Item
  pub whole : program ≡ items_of told.above ++ (item ∷ below)
  pub deep : IsDeep told.deep item
  pub counts : HasCounts told.counts program
