-- Where a program has a defect, and which programs are valid.
-- k is the number of the first mention of what is looked at.
use Rattle.std.specs.Prelude.{◌≡◌, ◌⊎◌, ℕ, ◌+◌, ◌<◌, ◌≤◌, min, pos, ◌<ℤ◌, List, [], ◌∷◌, ◌++◌, length, map}
use Rattle.std.specs.List.{Contains}
use Rattle.vmv_tree.specs.declared.defect.Defect.{Defect}
use Rattle.vmv_tree.specs.declared.defect.Defect.TheVariants.{UnknownName, Repeated, ArityWrong, IndexAssigned, RangeEmpty, Limit}
use Rattle.vmv_tree.specs.declared.name.Name.{Name}
use Rattle.vmv_tree.specs.declared.tree.Operand.{Operand}
use Rattle.vmv_tree.specs.declared.tree.Operand.TheVariants.{Lit, Var}
use Rattle.vmv_tree.specs.declared.tree.Test.{Test}
use Rattle.vmv_tree.specs.declared.tree.Param.{Param}
use Rattle.vmv_tree.specs.Tree.{Stmt, copy, compute, call, assert, choose, repeat, Block, [], ◌⨾◌, Body, Item, outside, helper, entry}
use Rattle.vmv_tree.specs.Run.{turns_of, name_of}
use Rattle.vmv_tree.specs.Mentions.{operand_mentions, test_mentions, mentions, block_mentions, item_mentions}
use Rattle.vmv_tree.specs.Limits.{outside_count, helper_count, entry_count, indexes_of, block_indexes, variables, block_statements, block_nesting, helper_depth, entry_numbers, distinct, call_paths, unrolled_steps, unrolled_calls}

-- what a place in a procedure sees
pub record Scope : Type 0 where
  -- the items above, the nearest first
  pub above : List Item
  -- the variables that may be named
  pub visible : List Name
  -- the indexes of the loops around it
  pub indexes : List Name
  -- the names that the procedure has declared so far
  pub declared : List Name

-- what is found: the mention, and its defect
abbrev pub Finds : Type 1
Finds = ℕ → Defect → Type 0

-- this defect at this mention, where P
abbrev pub At : ℕ → Defect → Type 0 → Finds
At k defect P m d = (m ≡ k) × (d ≡ defect) × P

-- more than the limit allows; a number above 1,000,000,000 is told as that
abbrev pub Over : ℕ → ℕ → ℕ → ℕ → Finds
Over k which found most m d = At k (Limit which (min found 1000000000) most) (most < found) m d

-- an item that has 64 of its kind above it, of so many in the program
abbrev pub TooMany : ℕ → ℕ → ℕ → ℕ → Finds
TooMany k which found above m d = At k (Limit which (min found 1000000000) 64) (above ≡ 64) m d

abbrev pub InOperand : Scope → ℕ → Operand → Finds
InOperand scope k (Lit word) m d = ⊥
InOperand scope k (Var name) m d = At k UnknownName (Contains scope.visible name → ⊥) m d

abbrev pub InTest : Scope → ℕ → Test → Finds
InTest scope k test m d = InOperand scope k test.left m d ⊎ InOperand scope (k + operand_mentions test.left) test.right m d

abbrev pub InArgs : Scope → ℕ → List Operand → Finds
InArgs scope k [] m d = ⊥
InArgs scope k (o ∷ args) m d = InOperand scope k o m d ⊎ InArgs scope (k + operand_mentions o) args m d

-- an assigned name
abbrev pub InTarget : Scope → ℕ → Name → Finds
InTarget scope k to m d =
    At k UnknownName (Contains scope.visible to → ⊥) m d ⊎ At k IndexAssigned (Contains scope.indexes to) m d

-- some outside or helper item above has this name and takes n arguments
abbrev pub Takes : List Item → Name → ℕ → Type 0
Takes [] callee n = ⊥
Takes (outside name arity ∷ above) callee n = ((name ≡ callee) × (arity ≡ pos n)) ⊎ Takes above callee n
Takes (helper name params body ∷ above) callee n = ((name ≡ callee) × (length params ≡ n)) ⊎ Takes above callee n
Takes (entry name params body ∷ above) callee n = Takes above callee n

abbrev pub InCallee : Scope → ℕ → Name → ℕ → Finds
InCallee scope k callee count m d =
    At k UnknownName ((n : ℕ) → Takes scope.above callee n → ⊥) m d
    ⊎ At k ArityWrong (((n : ℕ) × Takes scope.above callee n) × (Takes scope.above callee count → ⊥)) m d

abbrev mutual
  pub InStmt : Scope → ℕ → Stmt → Finds
  InStmt scope k (copy to from) m d = InTarget scope k to m d ⊎ InOperand scope (k + 1) from m d
  InStmt scope k (compute to op left right) m d =
      InTarget scope k to m d ⊎ (InOperand scope (k + 1) left m d ⊎ InOperand scope (k + 1 + operand_mentions left) right m d)
  InStmt scope k (call to callee args) m d =
      InTarget scope k to m d ⊎ (InCallee scope (k + 1) callee (length args) m d ⊎ InArgs scope (k + 2) args m d)
  InStmt scope k (assert test) m d = InTest scope k test m d
  InStmt scope k (choose test first second) m d =
      InTest scope k test m d
      ⊎ (InBlock scope (k + test_mentions test) first m d
      ⊎ InBlock (record scope { declared = scope.declared ++ block_indexes first }) (k + test_mentions test + block_mentions first) second m d)
  InStmt scope k (repeat index bound most body) m d =
      At k Repeated (Contains scope.declared index) m d
      ⊎ (InOperand scope (k + 1) bound m d
      ⊎ InBlock (record scope {
        visible = index ∷ scope.visible;
        indexes = index ∷ scope.indexes;
        declared = scope.declared ++ index ∷ [];
      }) (k + 1 + operand_mentions bound) body m d)

  pub InBlock : Scope → ℕ → Block → Finds
  InBlock scope k [] m d = ⊥
  InBlock scope k (s ⨾ rest) m d =
      InStmt scope k s m d ⊎ InBlock (record scope { declared = scope.declared ++ indexes_of s }) (k + mentions s) rest m d

-- a name that stands among those before it
abbrev pub InNames : ℕ → List Name → List Name → Finds
InNames k seen [] m d = ⊥
InNames k seen (name ∷ names) m d = At k Repeated (Contains seen name) m d ⊎ InNames (k + 1) (seen ++ name ∷ []) names m d

abbrev pub InParams : ℕ → List Name → List Param → Finds
InParams k seen [] m d = ⊥
InParams k seen (p ∷ params) m d =
    At k Repeated (Contains seen p.name) m d
    ⊎ (At k RangeEmpty (p.hi <ℤ p.lo) m d ⊎ InParams (k + 1) (seen ++ p.name ∷ []) params m d)

-- behind the parameters: the variables, the statements, the returned operand
abbrev pub InBody : List Item → ℕ → List Name → Body → Finds
InBody above k params body m d =
    let inside = k + length body.vars in
    let scope : Scope = record { above = above; visible = params ++ body.vars; indexes = []; declared = params ++ body.vars } in
    InNames k params body.vars m d
    ⊎ (InBlock scope inside body.block m d ⊎ InOperand scope (inside + block_mentions body.block) body.output m d)

-- the limits of every procedure, at its name
abbrev pub InProcedure : ℕ → List Name → Body → Finds
InProcedure k params body m d =
    Over k 5 (variables params body) 16 m d
    ⊎ (Over k 6 (block_statements body.block) 2000 m d ⊎ Over k 7 (block_nesting body.block) 8 m d)

-- the limits of an entry, at its name
abbrev pub InEntry : List Item → ℕ → List Param → Body → Finds
InEntry above k params body m d =
    Over k 9 (distinct (entry_numbers above params body)) 256 m d
    ⊎ (Over k 10 (call_paths above body) 1024 m d
    ⊎ (Over k 11 (unrolled_steps above body) 100000 m d ⊎ Over k 12 (unrolled_calls above body) 10000 m d))

abbrev pub InItem : List Item → List Item → ℕ → Item → Finds
InItem program above k (outside name arity) m d =
    At k Repeated (Contains (map name_of above) name) m d
    ⊎ (TooMany k 1 (outside_count program) (outside_count above) m d ⊎ Over k 4 (turns_of arity) 16 m d)
InItem program above k (helper name params body) m d =
    At k Repeated (Contains (map name_of above) name) m d
    ⊎ (TooMany k 2 (helper_count program) (helper_count above) m d
    ⊎ (InProcedure k params body m d
    ⊎ (Over k 8 (helper_depth above body) 16 m d
    ⊎ (InNames (k + 1) [] params m d ⊎ InBody above (k + 1 + length params) params body m d))))
InItem program above k (entry name params body) m d =
    At k Repeated (Contains (map name_of above) name) m d
    ⊎ (TooMany k 3 (entry_count program) (entry_count above) m d
    ⊎ (InProcedure k (map (λ p. p.name) params) body m d
    ⊎ (InEntry above k params body m d
    ⊎ (InParams (k + 1) [] params m d ⊎ InBody above (k + 1 + length params) (map (λ p. p.name) params) body m d))))

-- in the items, those of the program above them being given, the nearest first
abbrev pub InItems : List Item → List Item → ℕ → List Item → Finds
InItems program above k [] m d = ⊥
InItems program above k (item ∷ items) m d =
    InItem program above k item m d ⊎ InItems program (item ∷ above) (k + item_mentions item) items m d

-- the program has this defect at this mention
abbrev pub HasDefect : List Item → Finds
HasDefect program m d = InItems program [] 0 program m d

-- no mention has a defect
abbrev pub Valid : List Item → Type 0
Valid program = (m : ℕ) (d : Defect) → HasDefect program m d → ⊥

-- the order of the defects at one mention
abbrev pub rank : Defect → ℕ
rank UnknownName = 1
rank Repeated = 2
rank ArityWrong = 3
rank IndexAssigned = 4
rank RangeEmpty = 5
rank (Limit which found most) = 5 + which

-- the defect that is answered: the least mention, and there the least number
pub record FirstDefect (program : List Item) (m : ℕ) (d : Defect) : Type 0 where
  pub there : HasDefect program m d
  pub first : (n : ℕ) (e : Defect) → HasDefect program n e → m ≤ n
  pub least : (e : Defect) → HasDefect program m e → rank d ≤ rank e
