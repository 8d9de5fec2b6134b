-- The grammar of surface programs over tokens. As in the analysed language, a part of a program takes its tokens off the
-- front, and leaves the rest. Parentheses and brackets leave nothing in a tree: an expression or a test stands in any
-- number of them, and in one at least where it binds too weakly for its place.
use Rattle.std.specs.Prelude.{◌≡◌, ◌⊎◌, ℕ, ◌+◌, ◌<◌, pos, List, [], ◌∷◌, ◌++◌, replicate}
use Rattle.std.specs.Str.{IsUtf8}
use Rattle.vmv_tree.specs.declared.tree.Op.{Op}
use Rattle.vmv_tree.specs.declared.tree.Op.TheVariants.{Add, Sub, Mul, Div, Rem}
use Rattle.vmv_text.specs.declared.language.Language.TheVariants as language
use Rattle.vmv_text.specs.declared.token.Token.{Token}
use Rattle.vmv_text.specs.declared.token.Token.TheVariants.{Named, Number, OutsideWord, HelperWord, EntryWord, ReturnWord, AssertWord, IfWord, ElseWord, RepeatWord, ToWord, CapWord, AndWord, OrWord, NotWord, OpenParen, CloseParen, OpenBracket, CloseBracket, Comma, Semicolon, Equals, Minus}
use Rattle.vmv_text.specs.Tokens.{language_tokens, tokens_of}
use Rattle.vmv_text.specs.Grammar.{Takes, IsLit, IsName, IsParam, IsVars, AnyCommas, Braces, op_token, rel_token}
use Rattle.vmv_surface.specs.Surface.{Expr, literal, variable, operate, minus, ask, Args, no_args, arg, Test, compared, negated, both, either, Stmt, set, assert, choose, repeat, Block, no_stmts, row, Body, Item, outside, helper, entry}

-- in so many pairs of these, which is one at least where what stands inside is weaker than its place asks
abbrev pub Within : (first last : Token) → (asked strength : ℕ) → Takes → Takes
Within first last asked strength inner ts rest =
    (k : ℕ) × (mid : List Token) × (strength < asked → 0 < k) × (ts ≡ replicate k first ++ mid) × inner mid (replicate k last ++ rest)

-- how strongly an operation binds its sides: 0 a sum, 1 a product

abbrev pub binding : Op → ℕ
binding Add = 0
binding Sub = 0
binding Mul = 1
binding Div = 1
binding Rem = 1

-- how strong an expression is: 2 what a product takes on its right, 3 what may stand behind a sign
abbrev pub strength : Expr → ℕ
strength (literal word) = 2
strength (variable name) = 3
strength (operate op left right) = binding op
strength (minus inner) = 2
strength (ask callee args) = 3

-- an expression in parentheses, which is so without any
abbrev pub At : (asked : ℕ) → Expr → (bare : Takes) → Takes
At asked e bare = Within OpenParen CloseParen asked (strength e) bare

-- operations of one strength group from the left
unfoldable mutual
  -- in no parentheses
  pub IsBareExpr : Expr → Takes
  IsBareExpr (literal word) ts rest = IsLit word ts rest
  IsBareExpr (variable name) ts rest = ts ≡ Named name ∷ rest
  IsBareExpr (operate op left right) ts rest =
      (mid : List Token)
      × At (binding op) left (IsBareExpr left) ts (op_token op ∷ mid)
      × At (binding op + 1) right (IsBareExpr right) mid rest
  IsBareExpr (minus inner) ts rest =
      (mid : List Token) × (ts ≡ Minus ∷ mid) × At 3 inner (IsBareExpr inner) mid rest
  IsBareExpr (ask callee args) ts rest =
      (mid : List Token) × (ts ≡ Named callee ∷ OpenParen ∷ mid) × AreArgs args mid (CloseParen ∷ rest)

  -- [ expr { "," expr } ]
  pub AreArgs : Args → Takes
  AreArgs no_args ts rest = ts ≡ rest
  AreArgs (arg first more) ts rest =
      (mid : List Token) × At 0 first (IsBareExpr first) ts mid × AreMoreArgs more mid rest

  -- { "," expr }
  pub AreMoreArgs : Args → Takes
  AreMoreArgs no_args ts rest = ts ≡ rest
  AreMoreArgs (arg first more) ts rest =
      (mid : List Token) × (back : List Token) × (ts ≡ Comma ∷ mid)
      × At 0 first (IsBareExpr first) mid back × AreMoreArgs more back rest

-- an expression, where this strength is asked
abbrev pub IsExprAt : ℕ → Expr → Takes
IsExprAt asked e = At asked e (IsBareExpr e)

abbrev pub IsExpr : Expr → Takes
IsExpr e = IsExprAt 0 e

-- how strong a test is
abbrev pub test_strength : Test → ℕ
test_strength (either first second) = 0
test_strength (both first second) = 1
test_strength (negated part) = 2
test_strength (compared left rel right) = 2

-- a test in brackets, which is so without any
abbrev pub TestAt : (asked : ℕ) → Test → (bare : Takes) → Takes
TestAt asked test bare = Within OpenBracket CloseBracket asked (test_strength test) bare

-- `and` and `or` group from the left
unfoldable pub IsBareTest : Test → Takes
IsBareTest (either first second) ts rest =
    (mid : List Token)
    × TestAt 0 first (IsBareTest first) ts (OrWord ∷ mid)
    × TestAt 1 second (IsBareTest second) mid rest
IsBareTest (both first second) ts rest =
    (mid : List Token)
    × TestAt 1 first (IsBareTest first) ts (AndWord ∷ mid)
    × TestAt 2 second (IsBareTest second) mid rest
IsBareTest (negated part) ts rest =
    (mid : List Token) × (ts ≡ NotWord ∷ mid) × TestAt 2 part (IsBareTest part) mid rest
IsBareTest (compared left rel right) ts rest =
    (mid : List Token) × IsExpr left ts (rel_token rel ∷ mid) × IsExpr right mid rest

abbrev pub IsTestAt : ℕ → Test → Takes
IsTestAt asked test = TestAt asked test (IsBareTest test)

abbrev pub IsTest : Test → Takes
IsTest test = IsTestAt 0 test

unfoldable mutual
  pub IsStmt : Stmt → Takes
  IsStmt (set to from) ts rest =
      (mid : List Token) × (ts ≡ Named to ∷ Equals ∷ mid) × IsExpr from mid (Semicolon ∷ rest)
  IsStmt (assert test) ts rest =
      (mid : List Token) × (ts ≡ AssertWord ∷ mid) × IsTest test mid (Semicolon ∷ rest)
  IsStmt (choose test first second) ts rest =
      (mid : List Token) × (more : List Token) × (back : List Token) × (ts ≡ IfWord ∷ mid) × IsTest test mid more × Braces (AreStmts first) more back
      -- an absent else part and an empty one are the same
      × (((second ≡ no_stmts) × (back ≡ rest)) ⊎ ((last : List Token) × (back ≡ ElseWord ∷ last) × Braces (AreStmts second) last rest))
  IsStmt (repeat index bound most body) ts rest =
      (mid : List Token) × (more : List Token) × (n : ℕ) × (ts ≡ RepeatWord ∷ Named index ∷ ToWord ∷ mid)
      × IsExpr bound mid (CapWord ∷ Number n ∷ more) × (most ≡ pos n) × Braces (AreStmts body) more rest

  pub AreStmts : Block → Takes
  AreStmts no_stmts ts rest = ts ≡ rest
  AreStmts (row first block) ts rest = (mid : List Token) × IsStmt first ts mid × AreStmts block mid rest

-- [ "var" name { "," name } ";" ] { stmt } "return" expr ";"
unfoldable pub IsInBody : Body → Takes
IsInBody body ts rest =
    (mid : List Token) × (last : List Token) × IsVars body.vars ts mid × AreStmts body.block mid (ReturnWord ∷ last) × IsExpr body.output last (Semicolon ∷ rest)

abbrev pub IsBody : Body → Takes
IsBody body = Braces (IsInBody body)

unfoldable pub IsItem : Item → Takes
IsItem (outside f arity) ts rest =
    (n : ℕ) × (arity ≡ pos n) × (ts ≡ OutsideWord ∷ Named f ∷ OpenParen ∷ Number n ∷ CloseParen ∷ Semicolon ∷ rest)
IsItem (helper f params body) ts rest =
    (mid : List Token) × (more : List Token) × (ts ≡ HelperWord ∷ Named f ∷ OpenParen ∷ mid)
    × AnyCommas IsName params mid (CloseParen ∷ more) × IsBody body more rest
IsItem (entry f params body) ts rest =
    (mid : List Token) × (more : List Token) × (ts ≡ EntryWord ∷ Named f ∷ OpenParen ∷ mid)
    × AnyCommas IsParam params mid (CloseParen ∷ more) × IsBody body more rest

-- program = { item }
unfoldable pub IsSurfaceProgram : List Item → List Token → Type 0
IsSurfaceProgram [] ts = ts ≡ []
IsSurfaceProgram (item ∷ items) ts = (mid : List Token) × IsItem item ts mid × IsSurfaceProgram items mid

abbrev pub surface_tokens : List ℕ → List Token
surface_tokens bytes = tokens_of (language_tokens language.Surface bytes)

-- the bytes are a text of the surface program
pub record IsSurfaceText (bytes : List ℕ) (program : List Item) : Type 0 where
  pub utf8 : IsUtf8 bytes
  pub grammar : IsSurfaceProgram program (surface_tokens bytes)
