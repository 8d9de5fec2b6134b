-- The canonical text of a program.
use Rattle.std.specs.Prelude.{ℕ, List, [], ◌∷◌, ◌++◌, codes}
use Rattle.std.specs.Fmt.{signed_decimal}
use Rattle.vmv_tree.specs.declared.name.Name.{Name}
use Rattle.vmv_tree.specs.declared.tree.Operand.{Operand}
use Rattle.vmv_tree.specs.declared.tree.Operand.TheVariants.{Lit, Var}
use Rattle.vmv_tree.specs.declared.tree.Op.{Op}
use Rattle.vmv_tree.specs.declared.tree.Op.TheVariants.{Add, Sub, Mul, Div, Rem}
use Rattle.vmv_tree.specs.declared.tree.Rel.{Rel}
use Rattle.vmv_tree.specs.declared.tree.Rel.TheVariants.{Equal, Unequal, Less, AtMost, Greater, AtLeast}
use Rattle.vmv_tree.specs.declared.tree.Test.{Test}
use Rattle.vmv_tree.specs.declared.tree.Param.{Param}
use Rattle.vmv_tree.specs.Tree.{Stmt, copy, compute, call, assert, choose, repeat, Block, [], ◌⨾◌, Body, Item, outside, helper, entry}

-- a name as it is, and a literal in decimal digits without leading zeros, behind a minus sign where it is negative
abbrev pub operand_text : Operand → List ℕ
operand_text (Lit z) = signed_decimal z
operand_text (Var x) = x

abbrev pub op_text : Op → List ℕ
op_text Add = codes "+"
op_text Sub = codes "-"
op_text Mul = codes "*"
op_text Div = codes "/"
op_text Rem = codes "%"

abbrev pub rel_text : Rel → List ℕ
rel_text Equal = codes "=="
rel_text Unequal = codes "!="
rel_text Less = codes "<"
rel_text AtMost = codes "<="
rel_text Greater = codes ">"
rel_text AtLeast = codes ">="

-- with a space on each side
abbrev pub spaced : List ℕ → List ℕ
spaced sign = codes " " ++ sign ++ codes " "

abbrev pub test_text : Test → List ℕ
test_text test = operand_text test.left ++ spaced (rel_text test.rel) ++ operand_text test.right

-- each with a comma and a space before it
abbrev pub after_commas : {A : Type 0} → (A → List ℕ) → List A → List ℕ
after_commas text [] = []
after_commas text (x ∷ xs) = codes ", " ++ text x ++ after_commas text xs

-- with a comma and a space between each two
abbrev pub listed : {A : Type 0} → (A → List ℕ) → List A → List ℕ
listed text [] = []
listed text (x ∷ xs) = text x ++ after_commas text xs

abbrev pub names_text : List Name → List ℕ
names_text names = listed (λ x. x) names

-- `n: 0..50`
abbrev pub param_text : Param → List ℕ
param_text p = p.name ++ codes ": " ++ signed_decimal p.lo ++ codes ".." ++ signed_decimal p.hi

-- the indentation of the outermost lines, and that of the lines a level further in
abbrev pub outermost : List ℕ
outermost = []

abbrev pub deeper : List ℕ → List ℕ
deeper indent = indent ++ codes "  "

-- a line of its own
abbrev pub line : (indent : List ℕ) → List ℕ → List ℕ
line indent text = indent ++ text ++ codes "\n"

-- between the parts of an `if`: nothing where the second is empty
abbrev pub else_line : (indent : List ℕ) → Block → List ℕ
else_line indent [] = []
else_line indent (s ⨾ block) = line indent (codes "} else {")

-- the lines of a statement with this indentation; the statements of a block inside it are a level further in
abbrev mutual
  pub stmt_text : (indent : List ℕ) → Stmt → List ℕ
  stmt_text indent (copy to from) = line indent (to ++ codes " = " ++ operand_text from ++ codes ";")
  stmt_text indent (compute to op left right) =
      line indent (to ++ codes " = " ++ operand_text left ++ spaced (op_text op) ++ operand_text right ++ codes ";")
  stmt_text indent (call to callee args) =
      line indent (to ++ codes " = " ++ callee ++ codes "(" ++ listed operand_text args ++ codes ");")
  stmt_text indent (assert test) = line indent (codes "assert " ++ test_text test ++ codes ";")
  stmt_text indent (choose test first second) =
      line indent (codes "if " ++ test_text test ++ codes " {")
      ++ block_text (deeper indent) first
      ++ else_line indent second
      ++ block_text (deeper indent) second
      ++ line indent (codes "}")
  stmt_text indent (repeat index bound most body) =
      line indent (codes "repeat " ++ index ++ codes " to " ++ operand_text bound ++ codes " cap " ++ signed_decimal most ++ codes " {")
      ++ block_text (deeper indent) body
      ++ line indent (codes "}")

  pub block_text : (indent : List ℕ) → Block → List ℕ
  block_text indent [] = []
  block_text indent (s ⨾ block) = stmt_text indent s ++ block_text indent block

-- nothing where there are no variables
abbrev pub vars_text : List Name → List ℕ
vars_text [] = []
vars_text (x ∷ xs) = line (deeper outermost) (codes "var " ++ names_text (x ∷ xs) ++ codes ";")

-- what a procedure has behind its first line
abbrev pub body_text : Body → List ℕ
body_text body =
    vars_text body.vars
    ++ block_text (deeper outermost) body.block
    ++ line (deeper outermost) (codes "return " ++ operand_text body.output ++ codes ";")
    ++ line outermost (codes "}")

abbrev pub item_text : Item → List ℕ
item_text (outside f arity) = line outermost (codes "outside " ++ f ++ codes "(" ++ signed_decimal arity ++ codes ");")
item_text (helper f params body) = line outermost (codes "helper " ++ f ++ codes "(" ++ names_text params ++ codes ") {") ++ body_text body
item_text (entry f params body) =
    line outermost (codes "entry " ++ f ++ codes "(" ++ listed param_text params ++ codes ") {") ++ body_text body

-- the canonical text: items follow one another without blank lines
abbrev pub canonical : List Item → List ℕ
canonical [] = []
canonical (item ∷ items) = item_text item ++ canonical items
