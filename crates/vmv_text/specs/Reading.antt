-- What a reader of a part says of the tokens that it took, and of the place at which it stopped.
use Rattle.std.specs.Prelude.{◌≡◌, List, [], ◌∷◌, ◌++◌, ℕ, ℤ, pos, neg_ℤ, ◌^◌, ◌⊎◌, Bool, true, false, Option, Some, None, Result, Ok, Err}
use Rattle.vmv_tree.specs.declared.name.Name.{Name}
use Rattle.vmv_tree.specs.declared.tree.Op.{Op}
use Rattle.vmv_tree.specs.declared.tree.Operand.{Operand}
use Rattle.vmv_tree.specs.declared.tree.Rel.{Rel}
use Rattle.vmv_tree.specs.Tree.{Stmt, copy, compute, Block, [], ◌⨾◌, Item}
use Rattle.vmv_text.specs.declared.token.Token.{Token}
use Rattle.vmv_text.specs.declared.token.Token.TheVariants.{Named, Number, Edge, Equals, ElseWord, ToWord, CapWord, VarWord, OpenParen, CloseParen, Semicolon}
use Rattle.vmv_text.specs.declared.fault.Fault.{Fault}
use Rattle.vmv_text.specs.declared.fault.Fault.TheVariants.{Syntax, Memory}
use Rattle.vmv_text.specs.declared.language.Language.{Language}
use Rattle.vmv_text.specs.Tokens.{Placed, language_tokens, tokens_of}
use Rattle.vmv_text.specs.Grammar.{Takes, op_token, rel_token, IsOperand, IsStmt, AreStmts, Braces, Commas, AnyCommas, IsItem, IsProgram}

-- these tokens begin as what is left does: with the same token, or there are none on either side
abbrev pub Meets : (left : List Placed) → List Token → Type 0
Meets [] us = us ≡ []
Meets (p ∷ left) us = (back : List Token) × (us ≡ p.token ∷ back)

-- any tokens may follow
abbrev pub Any : List Token → Type 0
Any ts = Unit {0}

-- this token doesn't stand first
abbrev pub Lacks : Token → List Token → Type 0
Lacks token ts = (rest : List Token) → ts ≡ token ∷ rest → ⊥

abbrev pub NoElse : List Token → Type 0
NoElse ts = Lacks ElseWord ts

abbrev pub NoVar : List Token → Type 0
NoVar ts = Lacks VarWord ts

-- The part x was taken off the front. It is one whatever follows, and where what follows begins as what is left, no
-- part ends elsewhere, if what is behind that fits.
pub record Ends {X : Type 0} (part : X → Takes) (fits : List Token → Type 0) (x : X) (old new : List Placed) : Type 0 where
  pub used : List Placed
  pub place : old ≡ used ++ new
  pub made : (us : List Token) → part x (tokens_of used ++ us) us
  pub only : (y : X) (us rest : List Token) → Meets new us → fits rest → part y (tokens_of used ++ us) rest → rest ≡ us

-- The tokens in front of what is left begin a part, and with the first that is left, or at the end, they begin none.
pub record Stops {X : Type 0} (part : X → Takes) (fits : List Token → Type 0) (old new : List Placed) : Type 0 where
  pub used : List Placed
  pub place : old ≡ used ++ new
  pub some : X
  pub more : List Token
  pub goes_on : (rest : List Token) → part some (tokens_of used ++ (more ++ rest)) rest
  pub shut : (y : X) (us rest : List Token) → Meets new us → fits rest → part y (tokens_of used ++ us) rest → ⊥

-- no part begins so, and what is left begins where none goes on; or memory ran out
abbrev pub Fails : {X : Type 0} → (X → Takes) → (List Token → Type 0) → Fault → (old new : List Placed) → Type 0
Fails part fits Syntax old new = Stops part fits old new
Fails part fits Memory old new = Unit {0}

-- a part, which view shows, was taken, or reading it failed
abbrev pub ReadsAs : {A X : Type 0} → (A → X) → (X → Takes) → (List Token → Type 0) → Result A Fault → (old new : List Placed) → Type 0
ReadsAs view part fits (Ok x) old new = Ends part fits (view x) old new
ReadsAs view part fits (Err fault) old new = Fails part fits fault old new

-- the same where what is answered says only this of the part
abbrev pub ReadsWith : {A X : Type 0} → (A → X → Type 0) → (X → Takes) → (List Token → Type 0) → Result A Fault → (old new : List Placed) → Type 0
ReadsWith {X = X} says part fits (Ok a) old new = (x : X) × says a x × Ends part fits x old new
ReadsWith says part fits (Err fault) old new = Fails part fits fault old new

-- the same for a part that is its own view, and that anything may follow
abbrev pub Reads : {X : Type 0} → (X → Takes) → Result X Fault → (old new : List Placed) → Type 0
Reads part result old new = ReadsAs (λ x. x) part Any result old new

-- the first token
abbrev pub first_of : List Placed → Option Token
first_of [] = None
first_of (p ∷ rest) = Some p.token

-- the next token, with the text from it on, and the tokens of the text behind it; or there are none
abbrev pub front_tokens : Language → Option Token → (from behind : List ℕ) → List Placed
front_tokens language None from behind = []
front_tokens language (Some token) from behind = record { token = token; from = from } ∷ language_tokens language behind

-- behind the last token stands nothing
abbrev pub IsEnd : Option Token → (from behind : List ℕ) → Type 0
IsEnd token from behind = token ≡ None → (from ≡ []) × (behind ≡ [])

-- the next token of a text, the text from it on, and the text behind it
pub record IsFront (language : Language) (text : List ℕ) (token : Option Token) (from behind : List ℕ) : Type 0 where
  pub same : front_tokens language token from behind ≡ language_tokens language text
  pub end : IsEnd token from behind

-- whether this token was taken off the front
abbrev pub Tests : Token → Bool → (old new : List Placed) → Type 0
Tests token true old new = (from : List ℕ) × (old ≡ record { token = token; from = from } ∷ new)
Tests token false old new = Lacks token (tokens_of old) × (new ≡ old)

-- this one token
abbrev pub IsToken : Token → Unit {0} → Takes
IsToken token one ts rest = ts ≡ token ∷ rest

abbrev pub IsSmall : ℤ → Takes
IsSmall z ts rest = (n : ℕ) × (z ≡ pos n) × (ts ≡ Number n ∷ rest)

-- what a literal has behind its sign
abbrev pub IsNegative : ℤ → Takes
IsNegative z ts rest =
    ((n : ℕ) × (z ≡ neg_ℤ (pos n)) × (ts ≡ Number n ∷ rest)) ⊎ ((z ≡ neg_ℤ (pos (2 ^ 63))) × (ts ≡ Edge ∷ rest))

-- the size of a negative literal, as a token
abbrev pub IsSizeOf : ℤ → Option Token → Type 0
IsSizeOf z token =
    ((n : ℕ) × (z ≡ neg_ℤ (pos n)) × (token ≡ Some (Number n))) ⊎ ((z ≡ neg_ℤ (pos (2 ^ 63))) × (token ≡ Some Edge))

abbrev pub IsNoSize : Option Token → Type 0
IsNoSize token = ((n : ℕ) → token ≡ Some (Number n) → ⊥) × (token ≡ Some Edge → ⊥)

abbrev pub IsOp : Op → Takes
IsOp op ts rest = ts ≡ op_token op ∷ rest

abbrev pub IsRel : Rel → Takes
IsRel rel ts rest = ts ≡ rel_token rel ∷ rest

-- one or more with commas between them, and this token behind them
abbrev pub CommasTo : {A : Type 0} → Token → (A → Takes) → List A → Takes
CommasTo last one xs ts rest = Commas one xs ts (last ∷ rest)

-- any number with commas between them, and the closing parenthesis
abbrev pub Listed : {A : Type 0} → (A → Takes) → List A → Takes
Listed one xs ts rest = AnyCommas one xs ts (CloseParen ∷ rest)

-- what a statement has behind its first token
abbrev pub IsBehind : Token → Stmt → Takes
IsBehind first s ts rest = IsStmt s (first ∷ ts) rest

-- what an assignment has behind `=`
abbrev pub IsValue : Name → Stmt → Takes
IsValue to s ts rest = IsStmt s (Named to ∷ Equals ∷ ts) rest

-- what it has behind a name that stands first there
abbrev pub IsNamedValue : (to name : Name) → Stmt → Takes
IsNamedValue to name s ts rest = IsStmt s (Named to ∷ Equals ∷ Named name ∷ ts) rest

-- what it has behind the opening parenthesis of a call
abbrev pub IsCall : (to callee : Name) → Stmt → Takes
IsCall to callee s ts rest = IsStmt s (Named to ∷ Equals ∷ Named callee ∷ OpenParen ∷ ts) rest

-- what it has behind its first operand: the end, or an operation and another operand
abbrev pub IsTail : Option (Op × Operand) → Takes
IsTail None ts rest = ts ≡ Semicolon ∷ rest
IsTail (Some (op, right)) ts rest = (mid : List Token) × (ts ≡ op_token op ∷ mid) × IsOperand right mid (Semicolon ∷ rest)

-- the assignment of its first operand and what is behind it
abbrev pub assigned : Name → Operand → Option (Op × Operand) → Stmt
assigned to left None = copy to left
assigned to left (Some (op, right)) = compute to op left right

-- statements, and this token behind them
abbrev pub StmtsTo : Token → Block → Takes
StmtsTo last block ts rest = AreStmts block ts (last ∷ rest)

abbrev pub IsBlock : Block → Takes
IsBlock block = Braces (AreStmts block)

-- a block with these statements in front
abbrev pub before : Block → Block → Block
before [] c = c
before (s ⨾ b) c = s ⨾ before b c

-- what a loop has behind its word, up to its body: the index, the bound and the cap
abbrev pub IsTurns : Name × (Operand × ℤ) → Takes
IsTurns turns ts rest =
    (mid : List Token) × (n : ℕ) × (ts ≡ Named turns.0 ∷ ToWord ∷ mid) × IsOperand turns.1.0 mid (CapWord ∷ Number n ∷ rest) × (turns.1.1 ≡ pos n)

-- "else" block, or nothing
abbrev pub IsElse : Block → Takes
IsElse second back rest = ((second ≡ []) × (back ≡ rest)) ⊎ ((last : List Token) × (back ≡ ElseWord ∷ last) × IsBlock second last rest)

-- an item from behind its word on
abbrev pub IsItemBehind : Token → Item → Takes
IsItemBehind word item ts rest = IsItem item (word ∷ ts) rest

-- The tokens in front of what is left begin a program, and with the first that is left, or at the end, they begin none.
pub record ProgramStops (old new : List Placed) : Type 0 where
  pub used : List Placed
  pub place : old ≡ used ++ new
  pub program : List Item
  pub more : List Token
  pub goes_on : IsProgram program (tokens_of used ++ more)
  pub shut : (items : List Item) (us : List Token) → Meets new us → IsProgram items (tokens_of used ++ us) → ⊥

-- items up to the end, of which the answer says this, or the place of the fault; or memory ran out
abbrev pub ReadsProgram : {A : Type 0} → (A → List Item → Type 0) → Result A Fault → (old new : List Placed) → Type 0
ReadsProgram says (Ok x) old new = (items : List Item) × says x items × IsProgram items (tokens_of old)
ReadsProgram says (Err Syntax) old new = ProgramStops old new
ReadsProgram says (Err Memory) old new = Unit {0}
