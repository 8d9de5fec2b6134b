-- Procedures: the helpers and entries of a program. A procedure's number is its place among them in text order, from 0.
use Rattle.std.specs.Prelude.{◌^◌, ℤ, pos, ◌-ℤ◌, neg_ℤ, Bool, true, false, Option, Some, None, List, [], ◌∷◌, map}
use Rattle.vmv_tree.specs.declared.name.Name.{Name}
use Rattle.vmv_tree.specs.declared.tree.Param.{Param}
use Rattle.vmv_tree.specs.Tree.{Item, outside, helper, entry}

-- the helpers and entries, in text order
abbrev pub procs : List Item → List Item
procs [] = []
procs (outside name arity ∷ items) = procs items
procs (helper name params body ∷ items) = helper name params body ∷ procs items
procs (entry name params body ∷ items) = entry name params body ∷ procs items

-- the outside names, in text order
abbrev pub outsides : List Item → List Name
outsides [] = []
outsides (outside name arity ∷ items) = name ∷ outsides items
outsides (helper name params body ∷ items) = outsides items
outsides (entry name params body ∷ items) = outsides items

-- the name by which a procedure is called; an entry isn't called
abbrev pub helper_name : Item → Option Name
helper_name (outside name arity) = None
helper_name (helper name params body) = Some name
helper_name (entry name params body) = None

-- a parameter that any word is for, from the least to the greatest
abbrev pub any_word : Name → Param
any_word name = record { name = name; lo = neg_ℤ (pos (2 ^ 63)); hi = pos (2 ^ 63) -ℤ pos 1 }

-- the parameters of a procedure; those of a helper are for any word
abbrev pub params_of : Item → List Param
params_of (outside name arity) = []
params_of (helper name params body) = map any_word params
params_of (entry name params body) = params

abbrev pub is_entry : Item → Bool
is_entry (outside name arity) = false
is_entry (helper name params body) = false
is_entry (entry name params body) = true
