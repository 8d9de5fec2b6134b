-- Statements whose blocks are read without a tree: their fronts, and what may stand behind a block that ends.
use Rattle.std.specs.Prelude.{◌≡◌, ℕ, ◌+◌, max, ℤ, pos, List, [], ◌∷◌, ◌++◌, Bool, true, false, Result, Ok, Err, ◌⊎◌}
use Rattle.vmv_tree.specs.declared.name.Name.{Name}
use Rattle.vmv_tree.specs.declared.tree.Operand.{Operand}
use Rattle.vmv_tree.specs.declared.tree.Test.{Test}
use Rattle.vmv_tree.specs.Tree.{Stmt, copy, compute, call, assert, choose, repeat}
use Rattle.vmv_text.specs.declared.token.Token.{Token}
use Rattle.vmv_text.specs.declared.token.Token.TheVariants.{IfWord, RepeatWord, ElseWord, OpenBrace}
use Rattle.vmv_text.specs.declared.fault.Fault.{Fault}
use Rattle.vmv_text.specs.declared.fault.Fault.TheVariants.{Syntax, Memory}
use Rattle.vmv_text.specs.declared.flat.Opens.{Opens}
use Rattle.vmv_text.specs.declared.flat.Opens.TheVariants as opens
use Rattle.vmv_text.specs.declared.flat.OpenBlock.{OpenBlock}
use Rattle.vmv_text.specs.declared.flat.OpenBlock.TheVariants as kind
use Rattle.vmv_text.specs.Tokens.{Placed, tokens_of}
use Rattle.vmv_text.specs.Grammar.{Takes, IsTest, IsStmt}
use Rattle.vmv_text.specs.Reading.{Lacks, IsTurns}

-- a statement that has no block, or one up to the opening brace of its first block
pub data Piece : Type 0 where
  simple : (s : Stmt) → Piece
  choosing : (test : Test) → Piece
  repeating : (turns : Name × (Operand × ℤ)) → Piece

-- a statement that has no block
abbrev pub IsSimple : Stmt → Type 0
IsSimple (copy to from) = Unit {0}
IsSimple (compute to op left right) = Unit {0}
IsSimple (call to callee args) = Unit {0}
IsSimple (assert test) = Unit {0}
IsSimple (choose test first second) = ⊥
IsSimple (repeat index bound most body) = ⊥

abbrev pub IsPiece : Piece → Takes
IsPiece (simple s) ts rest = IsSimple s × IsStmt s ts rest
IsPiece (choosing test) ts rest = (mid : List Token) × (ts ≡ IfWord ∷ mid) × IsTest test mid (OpenBrace ∷ rest)
IsPiece (repeating turns) ts rest = (mid : List Token) × (ts ≡ RepeatWord ∷ mid) × IsTurns turns mid (OpenBrace ∷ rest)

-- what a piece has behind its first token
abbrev pub IsPieceBehind : Token → Piece → Takes
IsPieceBehind first piece ts rest = IsPiece piece (first ∷ ts) rest

-- what a piece opens
abbrev pub DoesOpen : Opens → Piece → Type 0
DoesOpen opens.Nothing (simple s) = Unit {0}
DoesOpen opens.Choice (choosing test) = Unit {0}
DoesOpen opens.Loop (repeating turns) = Unit {0}
DoesOpen other piece = ⊥

-- the blocks that are open behind a piece, the innermost last
abbrev pub opened : Opens → List OpenBlock → List OpenBlock
opened opens.Nothing blocks = blocks
opened opens.Choice blocks = blocks ++ kind.First ∷ []
opened opens.Loop blocks = blocks ++ kind.Other ∷ []

-- how many loops, and how deep, with such a piece, whose block stands so deep
abbrev pub loops_with : Opens → ℕ → ℕ
loops_with opens.Nothing loops = loops
loops_with opens.Choice loops = loops
loops_with opens.Loop loops = 1 + loops

abbrev pub nesting_with : Opens → (depth nesting : ℕ) → ℕ
nesting_with opens.Nothing depth nesting = nesting
nesting_with opens.Choice depth nesting = max nesting depth
nesting_with opens.Loop depth nesting = max nesting depth

-- `else` and an opening brace were taken
abbrev pub ElseTaken : (old new : List Placed) → Type 0
ElseTaken old new =
    (from : List ℕ) × (from' : List ℕ) × (old ≡ record { token = ElseWord; from = from } ∷ record { token = OpenBrace; from = from' } ∷ new)

-- whether `else` and an opening brace were taken; without the brace it is a fault
abbrev pub TakesElse : Result Bool Fault → (old new : List Placed) → Type 0
TakesElse (Ok true) old new = ElseTaken old new
TakesElse (Ok false) old new = Lacks ElseWord (tokens_of old) × (new ≡ old)
TakesElse (Err Syntax) old new = (from : List ℕ) × (old ≡ record { token = ElseWord; from = from } ∷ new) × Lacks OpenBrace (tokens_of new)
TakesElse (Err Memory) old new = Unit {0}

-- what was done behind a block that ended: the part behind `else` was opened, if it stands there and may
abbrev pub GoesBehind : OpenBlock → Result (Unit {0}) Fault → (blocks blocks' : List OpenBlock) → (old new : List Placed) → Type 0
GoesBehind kind.Other (Ok done) blocks blocks' old new = (blocks' ≡ blocks) × (new ≡ old)
GoesBehind kind.First (Ok done) blocks blocks' old new =
    ((blocks' ≡ blocks ++ kind.Other ∷ []) × ElseTaken old new) ⊎ ((blocks' ≡ blocks) × Lacks ElseWord (tokens_of old) × (new ≡ old))
GoesBehind kind.First (Err Syntax) blocks blocks' old new = TakesElse (Err Syntax) old new
GoesBehind kind.Other (Err Syntax) blocks blocks' old new = ⊥
GoesBehind closed (Err Memory) blocks blocks' old new = Unit {0}
