-- The program of the analysed language that a surface program is lowered to.
use Rattle.std.specs.Prelude.{ℕ, ◌+◌, ℤ, pos, List, [], ◌∷◌, ◌++◌, map, if◌then◌else◌}
use Rattle.vmv_tree.specs.declared.name.Name.{Name}
use Rattle.vmv_tree.specs.declared.tree.Operand.{Operand}
use Rattle.vmv_tree.specs.declared.tree.Operand.TheVariants.{Lit, Var}
use Rattle.vmv_tree.specs.declared.tree.Op.TheVariants.{Sub}
use Rattle.vmv_tree.specs.declared.tree.Rel.{Rel}
use Rattle.vmv_tree.specs.declared.tree.Rel.TheVariants.{Less, AtLeast}
use Rattle.vmv_tree.specs.declared.tree.Test.{Test as CoreTest}
use Rattle.vmv_tree.specs.Tree as core
use Rattle.vmv_tree.specs.Tree.{[], ◌⨾◌}
use Rattle.vmv_surface.specs.Surface.{Expr, literal, variable, operate, minus, ask, Args, no_args, arg, Test, compared, negated, both, either, Stmt, set, assert, choose, repeat, Block, no_stmts, row, Body, Item, outside, helper, entry, is_empty}
use Rattle.vmv_surface.specs.Temporaries.{temporary, temporaries_of}

infixr 66 ◌⧺◌
-- the one block, and then the other
abbrev pub ◌⧺◌ : core.Block → core.Block → core.Block
[] ⧺ second = second
(s ⨾ rest) ⧺ second = s ⨾ (rest ⧺ second)

-- the depth behind an expression at depth d: 1 more where it gives a temporary, as an operator or a call does
abbrev pub behind : ℕ → Expr → ℕ
behind d (literal word) = d
behind d (variable name) = d
behind d (operate op left right) = d + 1
behind d (minus inner) = d + 1
behind d (ask callee args) = d + 1

-- the operand that an expression at depth d is: itself, or the temporary that it gives
abbrev pub operand : ℕ → Expr → Operand
operand d (literal word) = Lit word
operand d (variable name) = Var name
operand d (operate op left right) = Var (temporary (d + 1))
operand d (minus inner) = Var (temporary (d + 1))
operand d (ask callee args) = Var (temporary (d + 1))

abbrev pub operands : ℕ → Args → List Operand
operands d no_args = []
operands d (arg first rest) = operand d first ∷ operands (behind d first) rest

-- the statements that compute an expression at depth d, the outermost of which sets this name
abbrev mutual
  pub computed : ℕ → Name → Expr → core.Block
  computed d to (literal word) = []
  computed d to (variable name) = []
  computed d to (operate op left right) =
      computed d (temporary (d + 1)) left
      ⧺ (computed (behind d left) (temporary (behind d left + 1)) right
      ⧺ (core.compute to op (operand d left) (operand (behind d left) right) ⨾ []))
  -- 0 - inner
  computed d to (minus inner) =
      computed d (temporary (d + 1)) inner ⧺ (core.compute to Sub (Lit (pos 0)) (operand d inner) ⨾ [])
  computed d to (ask callee args) = all_computed d args ⧺ (core.call to callee (operands d args) ⨾ [])

  pub all_computed : ℕ → Args → core.Block
  all_computed d no_args = []
  all_computed d (arg first rest) = computed d (temporary (d + 1)) first ⧺ all_computed (behind d first) rest

-- at depth d, the temporary of number d + 1 being set
abbrev pub lowered : ℕ → Expr → core.Block
lowered d e = computed d (temporary (d + 1)) e

-- what an assignment comes to: its outermost operator, call, name or literal sets its own variable
abbrev pub assigned : Name → Expr → core.Block
assigned to (literal word) = core.copy to (Lit word) ⨾ []
assigned to (variable name) = core.copy to (Var name) ⨾ []
assigned to (operate op left right) = computed 0 to (operate op left right)
assigned to (minus inner) = computed 0 to (minus inner)
assigned to (ask callee args) = computed 0 to (ask callee args)

-- the sides of a comparison are lowered as those of an operator

abbrev pub sides : ℕ → Expr → Expr → core.Block
sides d left right = lowered d left ⧺ lowered (behind d left) right

abbrev pub comparison : ℕ → Expr → Rel → Expr → CoreTest
comparison d left rel right = record { left = operand d left; rel = rel; right = operand (behind d left) right }

-- the tests of the temporary of number d + 1

abbrev pub is_set : ℕ → CoreTest
is_set d = record { left = Var (temporary (d + 1)); rel = AtLeast; right = Lit (pos 1) }

abbrev pub is_unset : ℕ → CoreTest
is_unset d = record { left = Var (temporary (d + 1)); rel = Less; right = Lit (pos 1) }

abbrev pub to_word : ℕ → ℤ → core.Block
to_word d word = core.copy (temporary (d + 1)) (Lit word) ⨾ []

-- a test at depth d sets the temporary of number d + 1: to 1 where it holds, else to 0
abbrev pub setting : ℕ → Test → core.Block
setting d (compared left rel right) =
    sides d left right ⧺ (core.choose (comparison d left rel right) (to_word d (pos 1)) (to_word d (pos 0)) ⨾ [])
setting d (negated part) = setting d part ⧺ (core.choose (is_set d) (to_word d (pos 0)) (to_word d (pos 1)) ⨾ [])
setting d (both first second) = setting d first ⧺ (core.choose (is_set d) (setting d second) [] ⨾ [])
setting d (either first second) = setting d first ⧺ (core.choose (is_unset d) (setting d second) [] ⨾ [])

-- the statements before a test at depth d, and what it then stands as

abbrev pub before : ℕ → Test → core.Block
before d (compared left rel right) = sides d left right
before d (negated part) = setting d (negated part)
before d (both first second) = setting d (both first second)
before d (either first second) = setting d (either first second)

abbrev pub standing : ℕ → Test → CoreTest
standing d (compared left rel right) = comparison d left rel right
standing d (negated part) = is_set d
standing d (both first second) = is_set d
standing d (either first second) = is_set d

-- an assert of a conjunction is the asserts of its parts in order
abbrev pub asserted : Test → core.Block
asserted (both first second) = asserted first ⧺ asserted second
asserted (compared left rel right) = before 0 (compared left rel right) ⧺ (core.assert (standing 0 (compared left rel right)) ⨾ [])
asserted (negated part) = before 0 (negated part) ⧺ (core.assert (standing 0 (negated part)) ⨾ [])
asserted (either first second) = before 0 (either first second) ⧺ (core.assert (standing 0 (either first second)) ⨾ [])

abbrev pub chosen : Test → core.Block → core.Block → core.Block
chosen test first second = before 0 test ⧺ (core.choose (standing 0 test) first second ⨾ [])

-- without a second part, an `if` of a conjunction is an `if` of its first part around the `if` of the rest
abbrev pub when : Test → core.Block → core.Block
when (both first second) block = when first (when second block)
when (compared left rel right) block = chosen (compared left rel right) block []
when (negated part) block = chosen (negated part) block []
when (either first second) block = chosen (either first second) block []

abbrev mutual
  pub lower : Stmt → core.Block
  lower (set to from) = assigned to from
  lower (assert test) = asserted test
  lower (choose test first second) =
      if is_empty second then when test (lower_all first) else chosen test (lower_all first) (lower_all second)
  lower (repeat index bound cap body) = lowered 0 bound ⧺ (core.repeat index (operand 0 bound) cap (lower_all body) ⨾ [])

  pub lower_all : Block → core.Block
  lower_all no_stmts = []
  lower_all (row first rest) = lower first ⧺ lower_all rest

-- the statements, and those that compute what is returned
abbrev pub whole_block : Body → core.Block
whole_block body = lower_all body.block ⧺ lowered 0 body.output

-- the temporaries that are used are declared behind the names of the `var`
abbrev pub lower_body : Body → core.Body
lower_body body = record {
  vars = body.vars ++ temporaries_of (whole_block body);
  block = whole_block body;
  output = operand 0 body.output;
}

abbrev pub lower_item : Item → core.Item
lower_item (outside name arity) = core.outside name arity
lower_item (helper name params body) = core.helper name params (lower_body body)
lower_item (entry name params body) = core.entry name params (lower_body body)

abbrev pub Lower : List Item → List core.Item
Lower program = map lower_item program
