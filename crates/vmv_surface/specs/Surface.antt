-- A program of the surface language: a tree. Brackets only group, and leave nothing in it.
use Rattle.std.specs.Prelude.{ℤ, Bool, true, false, List, [], ◌∷◌, ⊤, codes, ◌≡◌, take}
use Rattle.vmv_tree.specs.declared.name.Name.{Name}
use Rattle.vmv_tree.specs.declared.tree.Op.{Op}
use Rattle.vmv_tree.specs.declared.tree.Rel.{Rel}
use Rattle.vmv_tree.specs.declared.tree.Param.{Param}

mutual
  pub data Expr : Type 0 where
    literal : (word : ℤ) → Expr
    variable : (name : Name) → Expr
    -- left op right
    operate : (op : Op) (left right : Expr) → Expr
    -- "-" inner, where that is no literal
    minus : (inner : Expr) → Expr
    -- callee "(" args ")"
    ask : (callee : Name) (args : Args) → Expr

  pub data Args : Type 0 where
    no_args : Args
    arg : (first : Expr) (rest : Args) → Args

pub data Test : Type 0 where
  compared : (left : Expr) (rel : Rel) (right : Expr) → Test
  -- "not" part
  negated : (part : Test) → Test
  -- first "and" second
  both : (first second : Test) → Test
  -- first "or" second
  either : (first second : Test) → Test

mutual
  pub data Stmt : Type 0 where
    set : (to : Name) (from : Expr) → Stmt
    assert : (test : Test) → Stmt
    choose : (test : Test) (first second : Block) → Stmt
    repeat : (index : Name) (bound : Expr) (cap : ℤ) (body : Block) → Stmt

  pub data Block : Type 0 where
    no_stmts : Block
    row : (first : Stmt) (rest : Block) → Block

-- the names that it declares, its statements, and the expression that it returns
pub record Body : Type 0 where
  pub vars : List Name
  pub block : Block
  pub output : Expr

pub data Item : Type 0 where
  outside : (name : Name) (arity : ℤ) → Item
  helper : (name : Name) (params : List Name) (body : Body) → Item
  entry : (name : Name) (params : List Param) (body : Body) → Item

abbrev pub is_empty : Block → Bool
is_empty no_stmts = true
is_empty (row first rest) = false

-- a name of a program begins otherwise than those of temporaries
abbrev pub IsPlain : Name → Type 0
IsPlain name = take 2 name ≡ codes "__" → ⊥

-- each variable that is read, set or counted by is plain

abbrev mutual
  pub HasPlainNames : Expr → Type 0
  HasPlainNames (literal word) = ⊤
  HasPlainNames (variable name) = IsPlain name
  HasPlainNames (operate op left right) = HasPlainNames left × HasPlainNames right
  HasPlainNames (minus inner) = HasPlainNames inner
  HasPlainNames (ask callee args) = ArgsHavePlainNames args

  pub ArgsHavePlainNames : Args → Type 0
  ArgsHavePlainNames no_args = ⊤
  ArgsHavePlainNames (arg first rest) = HasPlainNames first × ArgsHavePlainNames rest

abbrev pub TestHasPlainNames : Test → Type 0
TestHasPlainNames (compared left rel right) = HasPlainNames left × HasPlainNames right
TestHasPlainNames (negated part) = TestHasPlainNames part
TestHasPlainNames (both first second) = TestHasPlainNames first × TestHasPlainNames second
TestHasPlainNames (either first second) = TestHasPlainNames first × TestHasPlainNames second

abbrev mutual
  pub StmtHasPlainNames : Stmt → Type 0
  StmtHasPlainNames (set to from) = IsPlain to × HasPlainNames from
  StmtHasPlainNames (assert test) = TestHasPlainNames test
  StmtHasPlainNames (choose test first second) = TestHasPlainNames test × BlockHasPlainNames first × BlockHasPlainNames second
  StmtHasPlainNames (repeat index bound cap body) = IsPlain index × HasPlainNames bound × BlockHasPlainNames body

  pub BlockHasPlainNames : Block → Type 0
  BlockHasPlainNames no_stmts = ⊤
  BlockHasPlainNames (row first rest) = StmtHasPlainNames first × BlockHasPlainNames rest

abbrev pub BodyHasPlainNames : Body → Type 0
BodyHasPlainNames body = BlockHasPlainNames body.block × HasPlainNames body.output

-- no variable that a procedure of the program reads, sets or counts by begins with two underscores
abbrev pub ProgramHasPlainNames : List Item → Type 0
ProgramHasPlainNames [] = ⊤
ProgramHasPlainNames (outside name arity ∷ items) = ProgramHasPlainNames items
ProgramHasPlainNames (helper name params body ∷ items) = BodyHasPlainNames body × ProgramHasPlainNames items
ProgramHasPlainNames (entry name params body ∷ items) = BodyHasPlainNames body × ProgramHasPlainNames items
