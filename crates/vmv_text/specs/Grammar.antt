-- The grammar of programs over tokens: a part of a program takes its tokens off the front, and leaves the rest.
use Rattle.std.specs.Prelude.{◌≡◌, ◌⊎◌, ℕ, ◌^◌, ℤ, pos, neg_ℤ, List, [], ◌∷◌}
use Rattle.std.specs.Str.{IsUtf8}
use Rattle.vmv_tree.specs.declared.name.Name.{Name}
use Rattle.vmv_tree.specs.declared.tree.Operand.{Operand}
use Rattle.vmv_tree.specs.declared.tree.Operand.TheVariants.{Lit, Var}
use Rattle.vmv_tree.specs.declared.tree.Op.{Op}
use Rattle.vmv_tree.specs.declared.tree.Op.TheVariants.{Add, Sub, Mul, Div, Rem}
use Rattle.vmv_tree.specs.declared.tree.Rel.{Rel}
use Rattle.vmv_tree.specs.declared.tree.Rel.TheVariants.{Equal, Unequal, Less, AtMost, Greater, AtLeast}
use Rattle.vmv_tree.specs.declared.tree.Test.{Test}
use Rattle.vmv_tree.specs.declared.tree.Param.{Param}
use Rattle.vmv_tree.specs.Tree.{Stmt, copy, compute, call, assert, choose, repeat, Block, [], ◌⨾◌, Body, Item, outside, helper, entry}
use Rattle.vmv_text.specs.declared.token.Token.{Token}
use Rattle.vmv_text.specs.declared.token.Token.TheVariants.{Named, Number, Edge, OutsideWord, HelperWord, EntryWord, VarWord, ReturnWord, AssertWord, IfWord, ElseWord, RepeatWord, ToWord, CapWord, Dots, DoubleEquals, NotEquals, LessOrEqual, GreaterOrEqual, OpenParen, CloseParen, OpenBrace, CloseBrace, Comma, Semicolon, Colon, Equals, Plus, Minus, Star, Slash, Percent, LessThan, GreaterThan}
use Rattle.vmv_text.specs.Tokens.{tokens}

-- from the tokens before a part to those behind it
abbrev pub Takes : Type 1
Takes = List Token → List Token → Type 0

abbrev pub op_token : Op → Token
op_token Add = Plus
op_token Sub = Minus
op_token Mul = Star
op_token Div = Slash
op_token Rem = Percent

abbrev pub rel_token : Rel → Token
rel_token Equal = DoubleEquals
rel_token Unequal = NotEquals
rel_token Less = LessThan
rel_token AtMost = LessOrEqual
rel_token Greater = GreaterThan
rel_token AtLeast = GreaterOrEqual

-- lit = small | "-" small | "-" edge
abbrev pub IsLit : ℤ → Takes
IsLit z ts rest =
    ((n : ℕ) × (z ≡ pos n) × (ts ≡ Number n ∷ rest))
    ⊎ (((n : ℕ) × (z ≡ neg_ℤ (pos n)) × (ts ≡ Minus ∷ Number n ∷ rest))
    ⊎ ((z ≡ neg_ℤ (pos (2 ^ 63))) × (ts ≡ Minus ∷ Edge ∷ rest)))

-- operand = name | lit
abbrev pub IsOperand : Operand → Takes
IsOperand (Var x) ts rest = ts ≡ Named x ∷ rest
IsOperand (Lit z) ts rest = IsLit z ts rest

-- one { "," one }
abbrev pub Commas : {A : Type 0} → (A → Takes) → List A → Takes
Commas one [] ts rest = ⊥
Commas one (x ∷ []) ts rest = one x ts rest
Commas one (x ∷ y ∷ xs) ts rest = (mid : List Token) × one x ts (Comma ∷ mid) × Commas one (y ∷ xs) mid rest

-- [ one { "," one } ]
abbrev pub AnyCommas : {A : Type 0} → (A → Takes) → List A → Takes
AnyCommas one [] ts rest = ts ≡ rest
AnyCommas one (x ∷ xs) ts rest = Commas one (x ∷ xs) ts rest

abbrev pub IsName : Name → Takes
IsName x ts rest = ts ≡ Named x ∷ rest

abbrev pub IsTest : Test → Takes
IsTest test ts rest = (mid : List Token) × IsOperand test.left ts (rel_token test.rel ∷ mid) × IsOperand test.right mid rest

-- "{" inner "}"
abbrev pub Braces : Takes → Takes
Braces inner ts rest = (mid : List Token) × (ts ≡ OpenBrace ∷ mid) × inner mid (CloseBrace ∷ rest)

-- value = operand [ op operand ] | name "(" [ operand { "," operand } ] ")"
unfoldable mutual
  pub IsStmt : Stmt → Takes
  IsStmt (copy to from) ts rest =
      (mid : List Token) × (ts ≡ Named to ∷ Equals ∷ mid) × IsOperand from mid (Semicolon ∷ rest)
  IsStmt (compute to op left right) ts rest =
      (mid : List Token) × (more : List Token) × (ts ≡ Named to ∷ Equals ∷ mid) × IsOperand left mid (op_token op ∷ more) × IsOperand right more (Semicolon ∷ rest)
  IsStmt (call to callee args) ts rest =
      (mid : List Token) × (ts ≡ Named to ∷ Equals ∷ Named callee ∷ OpenParen ∷ mid)
      × AnyCommas IsOperand args mid (CloseParen ∷ Semicolon ∷ rest)
  IsStmt (assert test) ts rest =
      (mid : List Token) × (ts ≡ AssertWord ∷ mid) × IsTest test mid (Semicolon ∷ rest)
  IsStmt (choose test first second) ts rest =
      (mid : List Token) × (more : List Token) × (back : List Token) × (ts ≡ IfWord ∷ mid) × IsTest test mid more × Braces (AreStmts first) more back
      -- an absent else part and an empty one are the same
      × (((second ≡ []) × (back ≡ rest)) ⊎ ((last : List Token) × (back ≡ ElseWord ∷ last) × Braces (AreStmts second) last rest))
  IsStmt (repeat index bound most body) ts rest =
      (mid : List Token) × (more : List Token) × (n : ℕ) × (ts ≡ RepeatWord ∷ Named index ∷ ToWord ∷ mid)
      × IsOperand bound mid (CapWord ∷ Number n ∷ more) × (most ≡ pos n) × Braces (AreStmts body) more rest

  pub AreStmts : Block → Takes
  AreStmts [] ts rest = ts ≡ rest
  AreStmts (s ⨾ block) ts rest = (mid : List Token) × IsStmt s ts mid × AreStmts block mid rest

-- [ "var" name { "," name } ";" ]
abbrev pub IsVars : List Name → Takes
IsVars [] ts rest = ts ≡ rest
IsVars (x ∷ xs) ts rest = (mid : List Token) × (ts ≡ VarWord ∷ mid) × Commas IsName (x ∷ xs) mid (Semicolon ∷ rest)

-- [ "var" name { "," name } ";" ] { stmt } "return" operand ";"
unfoldable pub IsInBody : Body → Takes
IsInBody body ts rest =
    (mid : List Token) × (last : List Token) × IsVars body.vars ts mid × AreStmts body.block mid (ReturnWord ∷ last) × IsOperand body.output last (Semicolon ∷ rest)

abbrev pub IsBody : Body → Takes
IsBody body = Braces (IsInBody body)

-- param = name ":" lit ".." lit
abbrev pub IsParam : Param → Takes
IsParam p ts rest =
    (mid : List Token) × (more : List Token) × (ts ≡ Named p.name ∷ Colon ∷ mid) × IsLit p.lo mid (Dots ∷ more) × IsLit p.hi more rest

unfoldable pub IsItem : Item → Takes
IsItem (outside f arity) ts rest =
    (n : ℕ) × (arity ≡ pos n) × (ts ≡ OutsideWord ∷ Named f ∷ OpenParen ∷ Number n ∷ CloseParen ∷ Semicolon ∷ rest)
IsItem (helper f params body) ts rest =
    (mid : List Token) × (more : List Token) × (ts ≡ HelperWord ∷ Named f ∷ OpenParen ∷ mid)
    × AnyCommas IsName params mid (CloseParen ∷ more) × IsBody body more rest
IsItem (entry f params body) ts rest =
    (mid : List Token) × (more : List Token) × (ts ≡ EntryWord ∷ Named f ∷ OpenParen ∷ mid)
    × AnyCommas IsParam params mid (CloseParen ∷ more) × IsBody body more rest

-- program = { item }
unfoldable pub IsProgram : List Item → List Token → Type 0
IsProgram [] ts = ts ≡ []
IsProgram (item ∷ items) ts = (mid : List Token) × IsItem item ts mid × IsProgram items mid

-- the bytes are a text of the program
pub record IsText (bytes : List ℕ) (program : List Item) : Type 0 where
  pub utf8 : IsUtf8 bytes
  pub grammar : IsProgram program (tokens bytes)
